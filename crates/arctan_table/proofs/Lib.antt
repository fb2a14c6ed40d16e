-- Euler's 64 terms are a quotient of two polynomials
pub mod Quotient
pub mod Euler
-- over its cell a row of the table is near that quotient, by what is computed of coefficients
pub mod Cell
pub mod Rows
pub mod Row
