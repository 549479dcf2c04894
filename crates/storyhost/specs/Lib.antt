pub mod Complaint
pub mod FileDisk
pub mod SystemOutside
