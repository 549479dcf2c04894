pub mod Disk
pub mod Events
pub mod Steady
pub mod Areas
pub mod Session
pub mod Laws
pub mod Rows
