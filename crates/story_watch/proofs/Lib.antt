pub mod ShowLemmas
pub mod StandardFacts
