pub mod Keycode
pub mod Reading
pub mod Field
pub mod Play
pub mod Request
pub mod Spelling
pub mod Reply
pub mod Laws
