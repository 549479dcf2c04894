pub mod RowLemmas
pub mod PutLemmas
pub mod LaidLemmas
pub mod CodeLemmas
pub mod OwnLemmas
pub mod StandardFacts
pub mod ChangeLemmas
