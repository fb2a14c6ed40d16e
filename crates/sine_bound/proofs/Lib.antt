-- The proof of the promises, in order of reading. Theorems has the promises themselves.
pub mod Terms
pub mod Kernel
pub mod Close
pub mod Peak
pub mod Angle
pub mod Answer
pub mod Places
pub mod Small
pub mod Bounds
pub mod Odd
pub mod Theorems
