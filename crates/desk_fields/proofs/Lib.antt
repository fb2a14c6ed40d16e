-- The laws that the proofs of the functions share, and what is proved of the definitions.
pub mod Steps
pub mod Hex
pub mod Runs
pub mod Texts
pub mod Readings
