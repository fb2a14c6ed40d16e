-- The exact value that the arctangent is held against, in whole numbers alone, and how near the answer is to it.
-- 01, 'Roots and angles': "Arctangent of (y, x): u is the smaller size divided by the larger, rounded once. The exact value A is the sum of the first 64
-- terms of Euler's series [..]. FRAC_PI_2 - A when y is the larger in size, then PI minus that when x is negative, then the sign of y. The answer is within
-- 2^-44 of this."
use Rattle.std.specs.Prelude.{Bool, true, false, ℕ, ◌+◌, ◌*◌, ◌/◌, ◌≤◌, ◌^◌, T, Float}
use Rattle.std.specs.Float.{nan, inf, fin, binary64}
use Rattle.std.specs.Float.Ieee.{up, down, fits, lt}
use Rattle.laws.specs.Literal.{zero}
use Rattle.laws.specs.Kind.{is_ordinary}
use Rattle.arctan_table.specs.Euler.{terms}
use Rattle.scalar.specs.Angles.{frac_pi2, pi}
use Rattle.arctan.specs.Rule.{steep_of, ratio}

-- ---- the angle
-- the size of a binary64 number in units of 2 ^ -1074, of which each is a whole number
unfoldable pub units_of : Float → ℕ
units_of nan = 0
units_of (inf s) = 0
units_of (fin s m e) = m * up e * 2 ^ 1074 / down e

-- (plus - minus) / bottom
pub record Angle : Type 0 where
  pub plus : ℕ
  pub minus : ℕ
  pub bottom : ℕ

-- c - x, where c is a number of units
abbrev pub less : ℕ → Angle → Angle
less c x = record { plus = c * x.bottom + 2 ^ 1074 * x.minus; minus = 2 ^ 1074 * x.plus; bottom = 2 ^ 1074 * x.bottom }

abbrev pub negated : Angle → Angle
negated x = record { plus = x.minus; minus = x.plus; bottom = x.bottom }

abbrev pub choose : Bool → Angle → Angle → Angle
choose true x y = x
choose false x y = y

-- A, "the sum of the first 64 terms"
abbrev pub series_of : Float → Float → Angle
series_of y x = let s = terms 64 0 (units_of (ratio y x)) (2 ^ 1074) in record { plus = s.top; minus = 0; bottom = s.bottom }

-- "FRAC_PI_2 - A when y is the larger in size"
abbrev pub turned : Float → Float → Angle
turned y x = choose (steep_of y x) (less (units_of frac_pi2) (series_of y x)) (series_of y x)

-- "then PI minus that when x is negative"
abbrev pub faced : Float → Float → Angle
faced y x = choose (lt x zero) (less (units_of pi) (turned y x)) (turned y x)

-- "then the sign of y"
abbrev pub exact_angle : Float → Float → Angle
exact_angle y x = choose (lt y zero) (negated (faced y x)) (faced y x)

-- ---- "within 2^-44"
-- a / b differs from the angle by at most 2 ^ -44: both sides are multiplied by 2 ^ 44 and the two denominators
abbrev pub Close : ℕ → ℕ → Angle → Type 0
Close a b x =
    (2 ^ 44 * (a * x.bottom + x.minus * b) ≤ 2 ^ 44 * (x.plus * b) + x.bottom * b)
    × (2 ^ 44 * (x.plus * b) ≤ 2 ^ 44 * (a * x.bottom + x.minus * b) + x.bottom * b)

abbrev pub Within : Float → Angle → Type 0
Within nan x = ⊥
Within (inf s) x = ⊥
Within (fin false m e) x = Close (m * up e) (down e) x
Within (fin true m e) x = Close (m * up e) (down e) (negated x)

-- an f64 that is finite and not 0
abbrev pub Ordinary : Float → Type 0
Ordinary x = T (fits binary64 x) × T (is_ordinary x)

-- THE BOUND, of a function atan2: proofs/Bound.antt proves it of the rule
abbrev pub Bounded : (Float → Float → Float) → Type 0
Bounded atan2 = (y x : Float) → Ordinary y → Ordinary x → Within (atan2 y x) (exact_angle y x)
