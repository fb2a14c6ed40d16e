-- A slight quotient is its own arctangent.
-- 01, 'Roots and angles': "If x is above 0 and y/x is below 2^-26 in size, it is y/x."
-- 01 leaves open what y/x is where it underflows: here it is the quotient, rounded once, which may be subnormal or a zero; it has the sign of y.
use Rattle.std.specs.Prelude.{◌≡◌, true, T, Float}
use Rattle.std.specs.Float.{binary64}
use Rattle.std.specs.Float.Ieee.{fits, div}
use Rattle.laws.specs.Kind.{negative}
use Rattle.arctan.specs.Rule.{slight}

pub record SlightQuotient (atan2 : Float → Float → Float) : Type 0 where
  pub is : (y x : Float) → T (fits binary64 y) → T (fits binary64 x) → slight y x ≡ true → atan2 y x ≡ div binary64 y x
  pub sign : (y x : Float) → slight y x ≡ true → negative (div binary64 y x) ≡ negative y
