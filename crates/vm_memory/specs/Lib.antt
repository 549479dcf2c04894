pub mod MemoryMap
pub mod Access
pub mod Code
pub mod Fault
pub mod Pages
pub mod OwnPages
pub mod Chaining
