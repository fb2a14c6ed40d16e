-- the steps of the series, the sizes of the table's rows, the whole part of 2 ^ 62 u
pub mod Steps
pub mod Fit
pub mod WholePart
-- what the code's tests say, the quotient u, the slight quotient, what the code holds by the rule's names, and the rule case by case
pub mod Tests
pub mod Ratio
pub mod Slight
pub mod Sized
pub mod Cases
-- the theorems that specs/ states: Annex F and the slight quotient
pub mod AnnexF
pub mod Quotient
