pub mod KeyLemmas
pub mod EndingLemmas
pub mod LinearLemmas
pub mod LinkedLemmas
pub mod BinaryLemmas
pub mod LawLemmas
pub mod HalvingLemmas
pub mod EndlessLemmas
mod StandardFacts
