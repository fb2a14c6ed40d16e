-- What the contracts of the crate cite.
pub mod Agree
pub mod Count
pub mod Counted
pub mod Number
pub mod Read
pub mod Told
