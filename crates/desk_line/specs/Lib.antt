-- What the contracts of the crate cite, and the grammar that the reading is held to.
pub mod Grammar
pub mod Read
