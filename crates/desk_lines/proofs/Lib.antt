-- What is proved of the definitions in specs/.
pub mod Kept
pub mod First
pub mod Hand
pub mod Buffer
