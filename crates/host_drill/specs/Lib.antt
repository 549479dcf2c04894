pub mod Alone
pub mod Drill
pub mod Drilled
