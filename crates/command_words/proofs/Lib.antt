pub mod CommandLemmas
pub mod KindsLemmas
