-- The numbers of the table, and Euler's series that they are held against.
pub mod Table
pub mod Euler
