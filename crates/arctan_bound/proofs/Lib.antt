-- the steps in whole numbers, the last rounding, the series, the quadrants
pub mod Horner
pub mod Converted
pub mod Arc
pub mod Bound
