pub mod CommandLine
pub mod Help
pub mod Numbers
pub mod Serving
pub mod Packing
pub mod Words
