-- What is proved of the definitions in specs/.
pub mod Hits
pub mod Needs
pub mod Told
pub mod Outcomes
pub mod Places
pub mod Tables
