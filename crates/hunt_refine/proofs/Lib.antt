-- A finer hunt never loses: Refinement has the theorems, in the words of specs/Promise.antt.
pub mod Samples
pub mod SampleOrder
pub mod Three
pub mod Run
pub mod LastCell
pub mod Count
pub mod Narrow
pub mod Refinement
