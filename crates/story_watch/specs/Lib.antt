pub mod Word
pub mod Watch
