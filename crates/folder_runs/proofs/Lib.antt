pub mod AgreeLemmas
pub mod RunLemmas
