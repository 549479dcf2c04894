pub mod SavedState
pub mod Runs
pub mod RunsTest
pub mod Contents
pub mod KeptList
pub mod UndoList
pub mod Protection
