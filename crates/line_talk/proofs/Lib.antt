pub mod StreamsLemmas
pub mod WritingLemmas
pub mod LinesLemmas
pub mod TurnLemmas
pub mod HearingLemmas
pub mod TalkLemmas
pub mod MemoryLemmas
