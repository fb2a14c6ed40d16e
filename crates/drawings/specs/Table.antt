-- 01, 'Checked drawings', P1 to P9, row by row.
use Rattle.std.specs.Prelude.{List, [], ◌∷◌, Float}
use Rattle.std.specs.Float.{binary64}
use Rattle.std.specs.Float.Ieee.{of_bits, neg}
use Rattle.laws.specs.Literal.{zero, one, two, three}
use Rattle.curves.specs.At.{at}
use Rattle.curves.specs.declared.Curve.TheVariants.{Segment}
use Rattle.drawings.specs.Drawing.{Drawing, cross, circle_through, arc_through, circle}

-- 1.5, 5 and 6
abbrev pub one½ : Float
one½ = of_bits binary64 0x3ff8000000000000

abbrev pub five : Float
five = of_bits binary64 0x4014000000000000

abbrev pub six : Float
six = of_bits binary64 0x4018000000000000

unfoldable pub drawings : List Drawing
drawings =
    -- P1: "the two segments above": 0.5 and 0.5 at (1,1)
    record { call = cross (Segment zero zero two two) (Segment zero two two zero); gives = 0x3fe0000000000000 ∷ 0x3fe0000000000000 ∷ 0x3ff0000000000000 ∷ 0x3ff0000000000000 ∷ [] } ∷
    -- P2: "segment (-2,0) to (2,0), unit circle at 0: t_a 0.25 at (-1,0), angle PI; then 0.75 at (1,0), angle 0."
    record {
      call = cross (Segment (neg two) zero two zero) (circle zero zero one);
      gives = 0x3fd0000000000000 ∷ 0x400921fb54442d18 ∷ 0xbff0000000000000 ∷ 0 ∷ 0x3fe8000000000000 ∷ 0 ∷ 0x3ff0000000000000 ∷ 0 ∷ [];
    } ∷
    -- P3: "(-2,1) to (2,1): one hit, t_a 0.5, angle FRAC_PI_2."
    record { call = cross (Segment (neg two) one two one) (circle zero zero one); gives = 0x3fe0000000000000 ∷ 0x3ff921fb54442d18 ∷ 0 ∷ 0x3ff0000000000000 ∷ [] } ∷
    -- P4: "at height 1.5 none."
    record { call = cross (Segment (neg two) one½ two one½) (circle zero zero one); gives = [] } ∷
    -- P5: "circles (0,0) and (6,0), radius 5: (3,4), then (3,-4)."
    record {
      call = cross (circle zero zero five) (circle six zero five);
      gives = 0x3fedac670561bb4f ∷ 0x4001b6e192ebbe44 ∷ 0x4008000000000000 ∷ 0x4010000000000000 ∷
          0x40156c6e7397f5ae ∷ 0x4010468a8ace4df6 ∷ 0x4008000000000000 ∷ 0xc010000000000000 ∷ [];
    } ∷
    -- P6: "(0,0) radius 2, (5,0) radius 3: one hit (2,0), angles 0 and PI."
    record { call = cross (circle zero zero two) (circle five zero three); gives = 0 ∷ 0x400921fb54442d18 ∷ 0x4000000000000000 ∷ 0 ∷ [] } ∷
    -- P7: "equal centres: none."
    record { call = cross (circle zero zero two) (circle zero zero three); gives = [] } ∷
    -- P8: "circle from (0,0) through (2,0) with tangent (0,1): centre (1,0), radius 1."
    record { call = circle_through (at zero zero) (at two zero) (at zero one); gives = 0x3ff0000000000000 ∷ 0 ∷ 0x3ff0000000000000 ∷ [] } ∷
    -- P9: "three-point arc (1,0), (-1,0), (0,1): centre (-0,-0), radius 1, angles 0 and PI, ccw."
    record {
      call = arc_through (at one zero) (at (neg one) zero) (at zero one);
      gives = 0x8000000000000000 ∷ 0x8000000000000000 ∷ 0x3ff0000000000000 ∷ 0 ∷ 0x400921fb54442d18 ∷ 1 ∷ [];
    } ∷
    []
