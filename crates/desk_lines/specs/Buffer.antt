-- The buffer of the line at hand: the bytes of the line, and zeros behind them, which no answer speaks of.
use Rattle.std.specs.Prelude.{ℕ, ◌≡◌, ◌-◌, List, ◌++◌, length, take, replicate}
use Rattle.desk_lines.specs.Hand.{most}

abbrev pub zeros : ℕ → List ℕ
zeros n = replicate n 0

abbrev pub laid : List ℕ → List ℕ
laid line = line ++ zeros (most - length line)

-- a line of n bytes in its buffer
pub record IsLaid (bytes : List ℕ) (n : ℕ) : Type 0 where
  pub full : length bytes ≡ most
  pub counted : length (take n bytes) ≡ n
  pub back : laid (take n bytes) ≡ bytes
