-- What the contracts of the crate cite.
pub mod Frame
pub mod Narrow
pub mod Fate
