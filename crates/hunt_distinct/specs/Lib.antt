-- The words in which the theorems of proofs/ are said.
pub mod Gasket
pub mod Distinct
