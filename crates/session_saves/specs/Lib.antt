pub mod Game
pub mod Agreement
pub mod Saves
pub mod Warming
pub mod Keeping
pub mod Laws
