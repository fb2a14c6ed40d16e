-- The arccosine.
-- 01, 'Roots and angles': "Arccosine of c in -1 to 1: the arctangent of (root of (1-c)(1+c), c)." and "the arccosine of NaN or of a number outside
-- -1 to 1 are the NaN above."
use Rattle.std.specs.Prelude.{Bool, cond, ◌&&◌, Float}
use Rattle.std.specs.Float.{nan, binary64}
use Rattle.std.specs.Float.Ieee.{of_bits, neg, add, sub, mul, le}
use Rattle.root.specs.SquareRoot.{square_root}
use Rattle.arctan.specs.Rule.{arctangent}

abbrev one64 : Float
one64 = of_bits binary64 0x3ff0000000000000

abbrev pub in_range : Float → Bool
in_range c = le (neg one64) c && le c one64

-- (1-c)(1+c), each operation rounded once
abbrev pub sine_squared : Float → Float
sine_squared c = mul binary64 (sub binary64 one64 c) (add binary64 one64 c)

abbrev pub arccosine : Float → Float
arccosine c = cond (in_range c) (arctangent (square_root (sine_squared c)) c) nan
