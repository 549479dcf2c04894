pub mod History
pub mod Views
pub mod Steps
pub mod Rule
pub mod Passes
