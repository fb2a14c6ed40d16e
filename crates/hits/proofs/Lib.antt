-- Laws of the room and of its need.
pub mod Rooms
pub mod Needs
pub mod Held
