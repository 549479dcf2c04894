pub mod UndoLemmas
pub mod StoreLemmas
pub mod GiveLemmas
