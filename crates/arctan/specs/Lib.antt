-- the rule, and the rows of its table
pub mod Rows
pub mod Rule
-- what the contracts inside the crate ask for
pub mod Sizes
-- what is proved of the rule beside its bound, which is in `arctan_bound`
pub mod AnnexF
pub mod Slight
