-- What the contracts of the crate cite beside the layers' definitions.
pub mod Crossed
pub mod Need
pub mod Pairs
pub mod Answers
