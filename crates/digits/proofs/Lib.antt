-- What is proved of the definitions in specs/.
pub mod Digits
pub mod Values
