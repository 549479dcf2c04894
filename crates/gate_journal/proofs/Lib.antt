pub mod LimitLemmas
pub mod PayloadLemmas
pub mod Steps
pub mod VersionLemmas
pub mod RowLemmas
pub mod CorruptLemmas
pub mod LogLemmas
pub mod Sound
pub mod Opening
pub mod SeatLemmas
pub mod HistoryLemmas
pub mod StopLemmas
mod ReadingLemmas
pub mod AppendLemmas
pub mod InTurnLemmas
pub mod SinceLemmas
pub mod StageLemmas
