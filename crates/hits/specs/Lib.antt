-- What the contracts of the crate cite.
pub mod Hit
pub mod Need
pub mod Listed
pub mod Outcome
pub mod Stands
pub mod Holds
