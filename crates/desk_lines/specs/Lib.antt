-- The lines of all bytes, the line at hand as they come, and its buffer.
pub mod Lines
pub mod Hand
pub mod Buffer
