pub mod ChunkLemmas
pub mod MemoryLemmas
pub mod PrintLemmas
pub mod HeapLemmas
pub mod OrderLemmas
pub mod ReadLemmas
pub mod WriteLemmas
pub mod LawLemmas
mod StandardFacts
