pub mod Readers
pub mod Lists
pub mod Loop
pub mod ItemLaws
pub mod GlkLaws
pub mod StreamLaws
pub mod CountLemmas
pub mod WholeLaws
mod StandardFacts
pub mod PutLemmas
