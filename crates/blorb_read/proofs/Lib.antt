pub mod EntryLemmas
pub mod FirstLemmas
mod StandardFacts
