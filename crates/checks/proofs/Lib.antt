-- What is proved of the definitions in specs/.
pub mod Tested
pub mod Within
pub mod Outcomes
pub mod Answered
