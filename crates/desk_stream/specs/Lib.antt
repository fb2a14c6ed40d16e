-- What the contracts of the crate and of the program cite, and what a run of the program is.
pub mod Step
pub mod Run
