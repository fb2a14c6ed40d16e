-- The words in which the theorem of proofs/ is said.
pub mod Answered
pub mod NeverLoses
