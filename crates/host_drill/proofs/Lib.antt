pub mod SessionLemmas
pub mod ScriptLemmas
pub mod PlayLemmas
pub mod OpenLemmas
