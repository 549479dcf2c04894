pub mod WordLaws
pub mod ReaderLaws
pub mod CrLaws
pub mod RequestLaws
