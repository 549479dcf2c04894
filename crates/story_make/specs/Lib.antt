pub mod Echo
pub mod Script
pub mod Lines
pub mod Laws
