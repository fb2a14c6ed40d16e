-- 01, 'Checked drawings', P10: "a closed, marked ellipse, both radii 1,000, at 0; b a circle, radius and radius_b 10, at (999.9247, 12.2715)." "Rotation 0, closed circles start at 0."
-- Here they are swapped: the hole comes first. `limits` runs the same records.
use Rattle.std.specs.Prelude.{Bool, true, false, Float}
use Rattle.std.specs.Float.{binary64}
use Rattle.std.specs.Float.Ieee.{of_bits}
use Rattle.laws.specs.Literal.{zero}
use Rattle.curves.specs.declared.Point.{Point}
use Rattle.curves.specs.declared.Arc.{Arc}
use Rattle.curves.specs.At.{at}

abbrev pub whole : Point → Float → Bool → Arc
whole center radius ellipse =
    record {
      center = center;
      radius = radius;
      radius_b = radius;
      rotation = zero;
      start = zero;
      end = zero;
      ccw = true;
      closed = true;
      is_ellipse = ellipse;
    }

-- radius 10 at (999.9247, 12.2715)
abbrev pub hole : Arc
hole = whole (at (of_bits binary64 0x408f3f65c91d14e4) (of_bits binary64 0x40288b020c49ba5e)) (of_bits binary64 0x4024000000000000) false

-- radius 1,000 at 0
abbrev pub flange : Arc
flange = whole (at zero zero) (of_bits binary64 0x408f400000000000) true
