pub mod Turns
pub mod Notes
pub mod Rows
pub mod DeskTag
pub mod Events
pub mod Answers
pub mod Crew
