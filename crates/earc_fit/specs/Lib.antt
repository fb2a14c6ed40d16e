-- What the contracts of the crate cite.
pub mod Target
pub mod Ends
pub mod Fit
