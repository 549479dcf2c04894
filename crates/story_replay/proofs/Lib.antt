pub mod GameLemmas
pub mod TextLemmas
pub mod ShownLemmas
pub mod LawLemmas
