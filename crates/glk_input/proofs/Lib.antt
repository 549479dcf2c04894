pub mod DeliveryLemmas
pub mod ValidLemmas
pub mod StandardFacts
