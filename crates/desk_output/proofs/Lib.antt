-- That the two ways of saying what is printed agree.
pub mod Kept
pub mod Fed
