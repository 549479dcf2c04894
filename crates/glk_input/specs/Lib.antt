pub mod Request
pub mod Delivery
pub mod Valid
pub mod Laws
