-- Demand 3 up to the public call: NeverLoses has the theorem, in the words of specs/NeverLoses.antt.
pub mod Told
pub mod NeverLoses
