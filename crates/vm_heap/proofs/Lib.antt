pub mod HeapLemmas
pub mod FitLemmas
pub mod HistoryLemmas
mod StandardFacts
