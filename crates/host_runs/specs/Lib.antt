pub mod Shows
pub mod Leaves
pub mod Certain
