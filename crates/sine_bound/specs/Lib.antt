-- What is promised of the sine and the cosine. Theorems.antt of proofs/ has each promise, proved.
pub mod Taylor
pub mod Within
pub mod Promise
