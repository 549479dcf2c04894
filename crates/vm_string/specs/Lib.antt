pub mod Fault
pub mod Node
pub mod Walk
pub mod Next
pub mod Meaning
