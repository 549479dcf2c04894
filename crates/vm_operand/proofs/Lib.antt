pub mod OpcodeLemmas
pub mod InstructionLemmas
pub mod OperandsLemmas
pub mod StandLemmas
pub mod OpcodeBytesLemmas
pub mod ModeBytesLemmas
pub mod OperandBytesLemmas
pub mod SpellingLemmas
mod StandardFacts
