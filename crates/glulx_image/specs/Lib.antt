pub mod Header
pub mod Checksum
pub mod Fault
pub mod Image
pub mod Laws
