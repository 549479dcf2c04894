-- The table of opcodes, by the chapters of its dictionary (Glulx 3.1.3, "Dictionary of Opcodes").
pub mod Work
pub mod Math
pub mod Branch
pub mod Function
pub mod Moving
pub mod Array
pub mod Values
pub mod Output
pub mod Text
pub mod Random
pub mod Heap
pub mod Undo
pub mod System
pub mod State
pub mod Searching
pub mod Search
