-- What the contracts of the crate cite.
pub mod Ellipse
pub mod ArcPoint
pub mod Span
pub mod Frame
