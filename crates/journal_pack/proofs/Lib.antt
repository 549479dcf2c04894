pub mod CallLemmas
pub mod CommandLemmas
pub mod LiveLemmas
pub mod KeptLemmas
pub mod VersionLemmas
pub mod ImageLemmas
pub mod PlainLemmas
pub mod PlaceLemmas
