-- The exact angle, and what it is to be near it.
pub mod Exact
