pub mod Games
pub mod Text
pub mod Laws
