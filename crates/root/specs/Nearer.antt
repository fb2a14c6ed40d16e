-- IEEE 754: the result is the number of the format that is nearest to the exact one. Said of a root over whole numbers, by squares.
use Rattle.std.specs.Prelude.{false, ℕ, ◌+◌, ◌*◌, ◌^◌, ◌<◌, T, Float}
use Rattle.std.specs.Float.{binary64}
use Rattle.std.specs.Float.Ieee.{fits}
use Rattle.std.specs.Float.Ieee.Exact.{HasValue}

-- a is nearer than b to the root of m: where they differ the root lies on a's side of their middle, (a + b) / 2, and not on it.
pub record Nearer (m a b : ℕ) : Type 0 where
  pub under : b < a → (a + b) * (a + b) < 4 * m
  pub over : a < b → 4 * m < (a + b) * (a + b)

-- r is `size` units of 2 ^ -1074, nearer to the root of m units squared than any other number of binary64. A number below zero is further off than zero, which is one of them.
pub record NearestRoot (m : ℕ) (r : Float) : Type 0 where
  pub size : ℕ
  pub value : HasValue r false size (2 ^ 1074)
  pub nearest : (y : Float) (b : ℕ) → T (fits binary64 y) → HasValue y false b (2 ^ 1074) → Nearer m size b
