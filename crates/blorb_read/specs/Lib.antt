pub mod Fault
pub mod Container
pub mod Laws
