pub mod Disk
pub mod Work
pub mod DiskState
pub mod Drawn
pub mod Calls
pub mod Memory
pub mod Flat
pub mod Plain
