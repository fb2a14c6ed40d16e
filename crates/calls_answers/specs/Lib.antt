-- What the contracts of the crate cite, and those of the calls above it.
pub mod Shape
pub mod Floats
