pub mod RowLemmas
pub mod ServeLemmas
pub mod CrewLemmas
