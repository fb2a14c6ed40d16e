-- What is proved of the definitions.
pub mod Long
pub mod Grammar
