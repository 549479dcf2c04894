pub mod ShowLemmas
pub mod LeavesLemmas
pub mod CertainLemmas
