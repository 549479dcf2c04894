pub mod ImageLemmas
pub mod EventLemmas
pub mod PuttingLemmas
pub mod SteadyLemmas
pub mod AreaLemmas
pub mod KnownLemmas
pub mod NewestLemmas
pub mod FollowLemmas
pub mod SessionLemmas
pub mod RowLemmas
mod StandardFacts
