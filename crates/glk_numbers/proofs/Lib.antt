pub mod EachLemmas
pub mod FoundLemmas
pub mod NumberedLemmas
pub mod OrderLemmas
pub mod PlaceLemmas
pub mod StandardFacts
