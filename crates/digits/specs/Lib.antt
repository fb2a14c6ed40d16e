-- What the contracts of the crate cite.
pub mod Hex
pub mod Decimal
