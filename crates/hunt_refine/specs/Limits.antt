-- 01, 'Numbers taken and numbers given back': "Coordinates, radii, parts of a direction and bulge have size at most 1,048,576; angles at most 1,024." Of these the theorems need the
-- limit on a's two angles alone.
use Rattle.std.specs.Prelude.{T}
use Rattle.std.specs.Float.Ieee.{le}
use Rattle.laws.specs.Size.{power, abs}
use Rattle.curves.specs.declared.Arc.{Arc}

-- the angles of an arc have size at most 2 ^ 10
pub record Limited (a : Arc) : Type 0 where
  pub start : T (le (abs a.start) (power 10))
  pub end : T (le (abs a.end) (power 10))
