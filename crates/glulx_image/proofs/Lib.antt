pub mod LaidOut
pub mod SumLemmas
pub mod CheckLemmas
mod StandardFacts
