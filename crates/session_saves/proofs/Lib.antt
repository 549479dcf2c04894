pub mod GameLemmas
pub mod KeptUpLemmas
pub mod AgreementLemmas
pub mod WarmingLemmas
pub mod KeepLemmas
pub mod NewestLemmas
pub mod StandardFacts
