-- Gasket has the theorem, Copies what follows from it for a build that copies.
pub mod Within
pub mod Order
pub mod Gasket
pub mod Copies
