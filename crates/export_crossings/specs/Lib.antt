-- What the contracts of the exports with hits cite beside the library's own definitions.
pub mod Exported
