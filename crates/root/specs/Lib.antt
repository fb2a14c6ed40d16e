-- What the contracts of the crate cite, and what is proved of the definition.
pub mod WholeRoot
pub mod SquareRoot
pub mod Norm
pub mod Nearer
pub mod Steps
