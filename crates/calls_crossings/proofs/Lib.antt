-- What is proved of the definitions in specs/.
pub mod Rooms
pub mod Told
pub mod Outcomes
