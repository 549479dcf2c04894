pub mod Folder
pub mod Runs
