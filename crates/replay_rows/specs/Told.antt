-- What an answer is told as: its counts, then the bits of its numbers, and past these what stood there before; as far as 128 words reach.
use Rattle.std.specs.Prelude.{ℕ, ◌<◌, ◌≡◌, List, ◌++◌, map, get_or}
use Rattle.std.specs.Float.{Float, binary64}
use Rattle.std.specs.Float.Ieee.{to_bits}
use Rattle.replay_rows.specs.Agree.{unwritten}

-- the word i
abbrev pub told : List ℕ → List Float → ℕ → ℕ
told counts numbers i = get_or (counts ++ map (to_bits binary64) numbers) i unwritten

abbrev pub Tells : List ℕ → List Float → List ℕ → Type 0
Tells counts numbers words = (i : ℕ) → i < 128 → get_or words i 0 ≡ told counts numbers i
