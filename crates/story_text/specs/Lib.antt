pub mod Text
pub mod Escape
pub mod Reading
pub mod Keycode
pub mod Laws
