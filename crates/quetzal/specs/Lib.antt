pub mod Fault
pub mod Chunks
pub mod Memory
pub mod Printing
pub mod Heap
pub mod Save
pub mod Returns
pub mod Laws
