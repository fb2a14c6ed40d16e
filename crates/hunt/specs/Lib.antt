-- What the contracts of the crate cite.
pub mod Cells
pub mod Visits
pub mod Hunt
