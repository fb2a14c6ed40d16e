-- IEEE 754's square root; 01, 'Roots and angles': "the IEEE 754 value, nearest, ties to even, stated over the whole number of the significand. Root of -0 is -0; of a
-- negative or NaN, the NaN above; of plus infinity, itself." specs/Nearer.antt says what makes it the IEEE 754 value.
use Rattle.std.specs.Prelude.{ℕ, zero, suc, ◌-◌, ◌*◌, ◌/◌, ◌^◌, true, false, Float}
use Rattle.std.specs.Float.{nan, inf, fin, binary64}
use Rattle.std.specs.Float.Ieee.{prec, low, up, down, size, units}
use Rattle.root.specs.WholeRoot.{nearest_root}

-- A unit is 2 ^ -1074, the smallest number above zero. This is the root of m units squared, for an m of 2 ^ 1074 or more, as every binary64 number above zero is.
-- The whole part of m's root has (size m + 1) / 2 binary digits, of which binary64 keeps 53 and drops k.
-- So the significand is the whole number nearest to the root of m / 4 ^ k, and the root is as many times 2 ^ k units.
unfoldable pub root_units : ℕ → Float
unfolding size units nearest_root
root_units m =
    let k = suc (size m) / 2 - prec binary64 in
    units binary64 false (nearest_root (prec binary64) (m / 4 ^ k)) k

-- A number x above zero is x * 2 ^ 2148 units squared, which is whole.
unfoldable pub square_root : Float → Float
unfolding root_units
square_root nan = nan
square_root (inf true) = nan
square_root (inf false) = inf false
square_root (fin s zero e) = fin s zero e
square_root (fin true (suc m) e) = nan
square_root (fin false (suc m) e) = root_units (suc m * up e * 2 ^ (2 * low binary64) / down e)
