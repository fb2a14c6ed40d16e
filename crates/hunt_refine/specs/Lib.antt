-- The words in which the theorems of proofs/ are said.
pub mod Levels
pub mod Limits
pub mod Held
pub mod Promise
