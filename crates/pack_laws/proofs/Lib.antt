pub mod GameLemmas
pub mod KeptLemmas
pub mod AnswerLemmas
