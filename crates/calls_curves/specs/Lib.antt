-- What the contract of the call cites.
pub mod Curves
