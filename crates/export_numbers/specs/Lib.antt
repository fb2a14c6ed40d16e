-- What the contracts of the exports cite beside the library's own definitions.
pub mod Lent
pub mod Exported
