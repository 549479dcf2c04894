mod StandardFacts
pub mod Torn
pub mod Moments
pub mod RangeLaws
pub mod StateLaws
pub mod PlainLaws
pub mod PieceLaws
pub mod CallLaws
pub mod LandedLaws
pub mod WorkLaws
pub mod CountLaws
