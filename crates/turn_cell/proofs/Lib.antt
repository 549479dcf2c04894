pub mod HistoryLemmas
pub mod MoveLemmas
pub mod StepLemmas
pub mod SeatLemmas
pub mod TurnLemmas
pub mod JoinLemmas
