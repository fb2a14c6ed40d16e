-- The rule of the arctangent of (y, x), operation by operation: docs/TRIG.md in the language of the proofs.
-- 01, 'Roots and angles': "One fixed-point rule for the series goes into docs/TRIG.md; the routines equal it in every bit."
use Rattle.std.specs.Prelude.{ℕ, ◌+◌, ◌-◌, ◌*◌, ◌/◌, ◌%◌, ◌^◌, Bool, cond, ◌&&◌, ◌||◌, pos, from_bits, is_nan, Float}
use Rattle.std.specs.Float.{nan, binary64}
use Rattle.std.specs.Float.Ieee.{neg, mul, div, lt, to_unsigned, of_int}
use Rattle.scalar.specs.Angles.{pi, frac_pi2}
use Rattle.laws.specs.Literal.{zero}
use Rattle.laws.specs.Kind.{negative, is_infinite, is_zero, is_ordinary}
use Rattle.fixed.specs.High.{high}
use Rattle.fixed.specs.Size.{size_of}
use Rattle.arctan.specs.declared.table.Row.{Row}
use Rattle.arctan.specs.Rows.{row_at}

-- ---- "a quarter of PI being exact and three quarters being 3 times that, rounded once."
abbrev pub quarter_pi : Float
quarter_pi = from_bits binary64 0x3fe921fb54442d18

abbrev pub three_quarters_pi : Float
three_quarters_pi = from_bits binary64 0x4002d97c7f3321d2

-- 2 ^ -26
abbrev pub tiny : Float
tiny = from_bits binary64 0x3e50000000000000

-- ---- the arctangent of u, from 0 to 1, in whole numbers of 2 ^ -61

-- x * y / 2 ^ 62 by the upper parts alone; `high` is the same by halves
unfoldable pub rough : ℕ → ℕ → ℕ
rough x y = x / 2 ^ 31 * (y / 2 ^ 26) / 2 ^ 5

-- A step of Horner's scheme: the coefficient c and the rest times q. q has 2 added, so that it has no sign; twice the rest at 2 ^ 61 is h, which goes off again.
unfoldable pub fine_step : ℕ → ℕ → ℕ → ℕ
unfolding high
fine_step c q h = c + high q h - h

unfoldable pub rough_step : ℕ → ℕ → ℕ → ℕ
unfolding rough
rough_step c q h = c + rough q h - h

-- the last step, where q has nothing added
unfoldable pub last_step : ℕ → ℕ → ℕ → ℕ
unfolding high
last_step c q h = c + high q h

-- the series at the rest h, which is at 2 ^ 62: five steps by the upper parts, four by halves
unfoldable pub upper_steps : Row → ℕ → ℕ
unfolding rough_step
upper_steps r h = rough_step r.a4 (rough_step r.a5 (rough_step r.a6 (rough_step r.a7 (rough_step r.a8 r.a9 h) h) h) h) h

unfoldable pub series_at : Row → ℕ → ℕ
unfolding upper_steps fine_step last_step
series_at r h = last_step r.a0 (fine_step r.a1 (fine_step r.a2 (fine_step r.a3 (upper_steps r h) h) h) h) h

-- the whole part of 2 ^ 62 u: its upper digits choose the row, the other 57 are the rest
unfoldable pub place_of : Float → ℕ
place_of u = to_unsigned 64 (mul binary64 u (from_bits binary64 0x43d0000000000000))

unfoldable pub units_at : ℕ → ℕ
unfolding series_at
units_at n = series_at (row_at (n / 2 ^ 57)) (n % 2 ^ 57)

unfoldable pub arc_of : Float → ℕ
unfolding units_at place_of
arc_of u = units_at (place_of u)

-- ---- the quadrants: "FRAC_PI_2 - A when y is the larger in size, then PI minus that when x is negative, then the sign of y."
abbrev pub less_of : Bool → ℕ → ℕ → ℕ
less_of t c n = cond t (c - n) n

-- FRAC_PI_2 and PI at 2 ^ 61
abbrev pub turned_of : Bool → ℕ → ℕ
turned_of steep n = less_of steep 3622009729038561280 n

abbrev pub faced_of : Float → ℕ → ℕ
faced_of x n = less_of (lt x zero) 7244019458077122560 n

-- n / 2 ^ 61
unfoldable pub float_of : ℕ → Float
float_of n = mul binary64 (of_int binary64 (pos n)) (from_bits binary64 0x3c20000000000000)

abbrev pub signed_of : Float → Float → Float
signed_of y c = cond (lt y zero) (neg c) c

unfoldable pub angle_of : Float → Float → Bool → Float → Float
unfolding arc_of float_of
angle_of y x steep u = signed_of y (float_of (faced_of x (turned_of steep (arc_of u))))

-- ---- "Zeros and infinities as Annex F": the size of the answer, and the answer
unfoldable pub edge_size : Float → Float → Float
edge_size y x =
    cond (is_infinite y)
    (cond (is_infinite x) (cond (negative x) three_quarters_pi quarter_pi) frac_pi2)
    (cond (is_infinite x || is_zero y) (cond (negative x) pi zero) frac_pi2)

unfoldable pub edge_of : Float → Float → Float
unfolding edge_size
edge_of y x = cond (is_nan y || is_nan x) nan (cond (negative y) (neg (edge_size y x)) (edge_size y x))

-- ---- the whole rule: "u is the smaller size divided by the larger, rounded once."
abbrev pub steep_of : Float → Float → Bool
steep_of y x = lt (size_of x) (size_of y)

abbrev pub smaller : Float → Float → Float
smaller y x = cond (steep_of y x) (size_of x) (size_of y)

abbrev pub larger : Float → Float → Float
larger y x = cond (steep_of y x) (size_of y) (size_of x)

unfoldable pub ratio : Float → Float → Float
ratio y x = div binary64 (smaller y x) (larger y x)

-- "If x is above 0 and y/x is below 2^-26 in size, it is y/x."
abbrev pub slight : Float → Float → Bool
slight y x = lt zero x && lt (size_of (div binary64 y x)) tiny

unfoldable pub arctangent : Float → Float → Float
unfolding ratio angle_of edge_of
arctangent y x =
    cond (is_ordinary y && is_ordinary x)
    (cond (slight y x) (div binary64 y x) (angle_of y x (steep_of y x) (ratio y x)))
    (edge_of y x)
