-- When an answer is that of a row: the refusal is the row's, and the words told are its outputs and, past these, what stood there before. A row is the call, four lengths, how many
-- inputs, the inputs, the refusal, how many outputs, the outputs: bench/src/bin/samples.rs.
use Rattle.std.specs.Prelude.{ℕ, ◌+◌, ◌<◌, ◌≡◌, cond, List, ltb, get_or}

-- what stands where nothing was written: the bits of 1e300
abbrev pub unwritten : ℕ
unwritten = 0x7e37e43c8800759c

-- the word i of an answer, as a row with n outputs from a place on has it
abbrev pub stored : List ℕ → ℕ → ℕ → ℕ → ℕ
stored row at n i = cond (ltb i n) (get_or row (at + i) 0) unwritten

abbrev pub Same : List ℕ → ℕ → ℕ → List ℕ → Type 0
Same row at n told = (i : ℕ) → i < 128 → stored row at n i ≡ get_or told i 0

-- THE COMPARISON, of a row with so many inputs and outputs
pub record Agrees (row : List ℕ) (inputs : ℕ) (outputs : ℕ) (refusal : ℕ) (told : List ℕ) : Type 0 where
  pub refused : refusal ≡ get_or row (inputs + 6) 0
  pub words : Same row (inputs + 8) outputs told
