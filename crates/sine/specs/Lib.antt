-- THE RULE of the sine and the cosine, in every bit, in the order in which it works: Angle, Node, Short, Rule. Every number but the first
-- and the last is a whole one; "x at 2 ^ k" is a whole number x that stands for x / 2 ^ k, and / cuts to the whole number below.
pub mod Angle
pub mod Node
pub mod Short
pub mod Rule
pub mod Split
