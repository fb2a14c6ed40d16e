-- The laws that the proofs of the functions share, and what is proved of the definitions.
pub mod Outcomes
pub mod Closing
pub mod Hunts
