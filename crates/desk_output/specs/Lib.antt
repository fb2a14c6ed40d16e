-- What is printed for all the input, and the same as the bytes come.
pub mod Output
pub mod Reading
