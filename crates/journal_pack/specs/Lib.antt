pub mod Live
pub mod Later
pub mod Images
pub mod Faults
pub mod Laws
