-- What the contracts of the calls cite: the numbers given, the refusals, the answers.
pub mod Given
pub mod Refusal
pub mod Answer
