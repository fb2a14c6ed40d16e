-- What the contracts of the crate cite beside the layers' definitions.
pub mod Answers
