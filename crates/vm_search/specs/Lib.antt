pub mod Key
pub mod Ending
pub mod Linear
pub mod Binary
pub mod Linked
pub mod Fault
pub mod Laws
