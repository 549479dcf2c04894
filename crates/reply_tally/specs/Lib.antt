pub mod ShowLines
pub mod Refusals
pub mod Tally
pub mod Laws
