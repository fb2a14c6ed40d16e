-- What the contracts of the crate cite.
pub mod Turn
pub mod Squared
pub mod Near
pub mod Samples
pub mod Newton
pub mod EllipseDist
pub mod CircleDist
pub mod ArcDist
pub mod Thirds
pub mod ArcParam
