-- What the contracts of the functions behind `sqrt` cite.
use Rattle.std.specs.Prelude.{◌≡◌, false, ℕ, ◌+◌, ◌*◌, ◌/◌, ◌%◌, ◌^◌, ◌≤◌, ◌<◌}
use Rattle.std.specs.Float.{binary64}
use Rattle.std.specs.Float.Ieee.{of_bits}
use Rattle.std.specs.Float.Ieee.Exact.{HasValue}
use Rattle.root.specs.SquareRoot.{square_root}

-- src/whole.rt. s is the whole number nearest to the root of n: n lies between the squares of s - 1 / 2 and s + 1 / 2, which are s * s - s + 1 / 4 and s * s + s + 1 / 4.
pub record Nearest (n s : ℕ) : Type 0 where
  pub above : s * s < n + s
  pub below : n ≤ s * s + s

-- One turn of a root by digits. The number's digits so far, which are root * root + rest, get the two highest of `word` behind them, and `word` loses these.
pub record Turned (root rest word root' rest' word' : ℕ) : Type 0 where
  pub number : root' * root' + rest' ≡ 4 * (root * root + rest) + word / 2 ^ 62
  pub least : rest' ≤ 2 * root'
  pub grown : root' ≤ 2 * root + 1
  pub moved : word' ≡ word * 2 ^ 2 % 2 ^ 64

-- src/pattern.rt. The number of the pattern b is t * 2 ^ y / 2 ^ 2148, where t has 53 digits. Of the pattern `like` only its size is said: it leads to a guess alone.
pub record Spread (b t y like : ℕ) : Type 0 where
  pub number : HasValue (of_bits binary64 b) false (t * 2 ^ y) (2 ^ 2148)
  pub low : 2 ^ 52 ≤ t
  pub high : t < 2 ^ 53
  pub least : 1022 ≤ y
  pub most : y < 3120
  pub finite : like < 0x7ff0_0000_0000_0000

-- The number of the pattern r is the root of that of the pattern b, and it is finite.
pub record Rooted (b r : ℕ) : Type 0 where
  pub number : of_bits binary64 r ≡ square_root (of_bits binary64 b)
  pub finite : r < 0x7ff0_0000_0000_0000
