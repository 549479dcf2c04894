pub mod AnswerLemmas
pub mod IsolationLemmas
pub mod RefusalLemmas
pub mod RepeatLemmas
pub mod TurningLemmas
pub mod WorldLemmas
