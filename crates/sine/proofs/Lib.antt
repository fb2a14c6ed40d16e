-- What the proofs of the functions share, and what is proved of the remainder.
pub mod Sizes
pub mod Splits
pub mod Patterns
pub mod Remainders
pub mod Shortcuts
pub mod ByTurns
pub mod Cases
pub mod Signs
pub mod Outcome
