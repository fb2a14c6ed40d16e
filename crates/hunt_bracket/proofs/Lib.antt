-- The laws that the proofs of the functions share.
pub mod Frames
pub mod Halvings
pub mod Doubles
