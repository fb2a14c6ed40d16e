-- 01, 'Numbers taken and numbers given back': "Coordinates, radii, parts of a direction and bulge have size at most 1,048,576; angles at most 1,024." The numbers that a call is
-- given, and what is wrong with them.
use Rattle.std.specs.Prelude.{Bool, not, ◌||◌, List, [], ◌∷◌, Float}
use Rattle.std.specs.Float.{binary64}
use Rattle.std.specs.Float.Ieee.{lt, of_bits}
use Rattle.std.specs.Float.Ieee.Scale.{finite}
use Rattle.laws.specs.Size.{abs}
use Rattle.curves.specs.declared.Point.{Point}
use Rattle.curves.specs.declared.Arc.{Arc}
use Rattle.curves.specs.declared.Curve.{Curve}
use Rattle.curves.specs.declared.Curve.TheVariants as curve
use Rattle.checks.specs.declared.Faults.{Faults}

pub data Given : Type 0 where
  coordinate angle : Float → Given

-- "NaN or infinite"
abbrev pub unreal : Given → Bool
unreal (coordinate x) = not (finite x)
unreal (angle x) = not (finite x)

-- "beyond its limit": 1,048,576 and 1,024
abbrev pub beyond : Given → Bool
beyond (coordinate x) = lt (of_bits binary64 0x4130000000000000) (abs x)
beyond (angle x) = lt (of_bits binary64 0x4090000000000000) (abs x)

-- number after number: whether one so far was unreal, and whether one was beyond. `some_unreal` and `some_beyond` in proofs/Tested.antt say it of the whole list.
unfoldable pub tested : Faults → List Given → Faults
tested f [] = f
tested f (g ∷ gs) = tested (record { unreal = f.unreal || unreal g; beyond = f.beyond || beyond g }) gs

abbrev pub point : Point → List Given
point p = coordinate p.x ∷ coordinate p.y ∷ []

-- All seven numbers of an arc are tested, whatever its marks (docs/DECISIONS.md).
abbrev pub arc_numbers : Arc → List Given
arc_numbers a =
    coordinate a.center.x ∷ coordinate a.center.y ∷ coordinate a.radius ∷ coordinate a.radius_b ∷ angle a.rotation ∷ angle a.start ∷ angle a.end ∷ []

abbrev pub curve_numbers : Curve → List Given
curve_numbers (curve.Segment x1 y1 x2 y2) = coordinate x1 ∷ coordinate y1 ∷ coordinate x2 ∷ coordinate y2 ∷ []
curve_numbers (curve.Arc a) = arc_numbers a
