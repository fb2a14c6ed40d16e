-- What the contracts of the crate cite.
pub mod Project
pub mod Lines
pub mod Segments
