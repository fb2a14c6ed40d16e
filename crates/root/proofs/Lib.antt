-- The laws behind the crate's contracts, and what makes its definition IEEE 754's.
-- whole numbers: the nearest root, the turns of a root by digits, a guess mended
pub mod WholeRoot
pub mod Turns
pub mod Guess
-- numbers of binary64: the scale of a root, the digits of a number, the pattern of its root, the roots that are not worked out
pub mod Scale
pub mod Spreads
pub mod Assemble
pub mod Edges
-- the definition is right
pub mod Correct
pub mod Worked
