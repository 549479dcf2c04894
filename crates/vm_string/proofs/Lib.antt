pub mod WalkLemmas
pub mod FrontLemmas
pub mod BitLemmas
pub mod MeaningLemmas
pub mod StandardFacts
