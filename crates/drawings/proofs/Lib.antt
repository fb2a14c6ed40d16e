-- The drawings, worked out by the definitions.
pub mod Drawings
