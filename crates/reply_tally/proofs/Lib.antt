pub mod LineLemmas
pub mod FoundLemmas
pub mod TallyLemmas
pub mod ShowLemmas
mod StandardFacts
pub mod TurnLemmas
