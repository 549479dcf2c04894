pub mod LineLemmas
pub mod ScriptLaws
pub mod StandardFacts
