pub mod HeapMap
pub mod FirstFit
pub mod Allocation
pub mod History
