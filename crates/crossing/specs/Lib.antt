-- What the contracts of the crate cite.
pub mod Meet
pub mod SegmentArc
pub mod Circles
