-- The computed tests of every row, and how a row's answer is read off.
pub mod Rows
pub mod Nodes
pub mod Flat
