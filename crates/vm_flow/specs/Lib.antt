pub mod Answer
pub mod Function
pub mod Call
pub mod Return
pub mod Throw
pub mod Token
