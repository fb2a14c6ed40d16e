-- The words in which the theorem of proofs/ is said.
pub mod Drawing
pub mod Table
