-- What the contracts of the crate cite.
pub mod Lines
pub mod Conic
pub mod Axes
