pub mod BeforeLemmas
pub mod FileLemmas
pub mod Newest
pub mod AreaWritten
pub mod LaidLemmas
pub mod Runs
pub mod SlotLemmas
pub mod StoreLemmas
pub mod PutLemmas
mod StandardFacts
pub mod CallLemmas
