-- What the contracts of the crate cite, and the bytes that a field consists of.
pub mod Text
pub mod Field
