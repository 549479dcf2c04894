pub mod Fields
pub mod Bytes
pub mod Made
pub mod Laws
