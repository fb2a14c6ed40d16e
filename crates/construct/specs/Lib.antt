-- What the contracts of the crate cite.
pub mod OutOfRange
pub mod Svg
pub mod Conversion
pub mod Circumscribed
pub mod TangentCircle
