pub mod File
pub mod Outline
pub mod Slots
pub mod Images
pub mod Store
pub mod Frames
