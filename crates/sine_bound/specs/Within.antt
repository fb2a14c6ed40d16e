-- 01, 'Roots and angles': "The answer is within 2^-44 of it and in -1 to 1." What it means that a float is near a fraction, and that it
-- is at most 1 in size, in whole numbers. `num` and `den` give the size of a float as a fraction.
use Rattle.std.specs.Prelude.{cond, ℕ, ◌+◌, ◌*◌, ◌≤◌, ◌^◌, T, Float}
use Rattle.std.specs.Float.Ieee.Positive.{num, den}
use Rattle.std.specs.Float.Ieee.Scale.{finite}
use Rattle.laws.specs.Kind.{negative}

-- y is (gain y - loss y) / den y; one of the two is 0
abbrev pub gain : Float → ℕ
gain y = cond (negative y) 0 (num y)

abbrev pub loss : Float → ℕ
loss y = cond (negative y) (num y) 0

-- y is finite, and y and (g - l) / f differ by at most 2 ^ -44: all is multiplied by 2 ^ 44, by f and by the denominator of y
pub record Within (y : Float) (f g l : ℕ) : Type 0 where
  pub is_finite : T (finite y)
  pub above : 2 ^ 44 * (gain y * f + l * den y) ≤ 2 ^ 44 * (loss y * f + g * den y) + f * den y
  pub below : 2 ^ 44 * (loss y * f + g * den y) ≤ 2 ^ 44 * (gain y * f + l * den y) + f * den y

-- y is in -1 to 1
abbrev pub AtMostOne : Float → Type 0
AtMostOne y = T (finite y) × (num y ≤ den y)
