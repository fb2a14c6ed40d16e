-- The nodes of the sine and the cosine: the table of numbers, and what one row of it stands for beside Taylor's series.
pub mod Table
pub mod Series
pub mod Row
