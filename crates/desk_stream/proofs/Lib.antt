-- What is proved of the definitions in specs/.
pub mod Before
pub mod Runs
pub mod Pieces
