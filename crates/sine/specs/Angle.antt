-- The angle. 01, 'Roots and angles': "let r be x % TAU, as the language's % gives it." The rule goes on with n, the size of r at 2 ^ 61,
-- cut to a whole number, and 0 where r is no number.
use Rattle.std.specs.Prelude.{ℕ, from_bits, Float}
use Rattle.std.specs.Float.{binary64}
use Rattle.std.specs.Float.Ieee.{mul, to_unsigned}
use Rattle.scalar.specs.Angles as angles
use Rattle.fixed.specs.Size.{size_of}

-- TAU, kept shut so that no proof opens its bits unasked
unfoldable pub tau : Float
tau = angles.tau

-- the whole part of the size of r times 2 ^ 61
unfoldable pub units : Float → ℕ
units r = to_unsigned 64 (mul binary64 (size_of r) (from_bits binary64 0x43c0000000000000))
