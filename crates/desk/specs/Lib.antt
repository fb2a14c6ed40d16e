-- What the contracts of the crate cite.
pub mod Table
pub mod Places
pub mod Refused
pub mod Reply
pub mod Answer
