-- How C's numbers stand for the library's: an arc is seven numbers (center x and y, radius, radius_b, rotation, start, end) and a whole number of marks, 1 for ccw, 2 for closed
-- and 4 for an ellipse. A curve is an arc, or with the mark 8 a segment of four numbers, its ends. A number that the caller has not lent is the NaN, so the call is refused with 1.
use Rattle.std.specs.Prelude.{ℕ, ◌/◌, ◌%◌, cond, List, eqb, get_or, Float}
use Rattle.std.specs.Float.{nan}
use Rattle.curves.specs.declared.Arc.{Arc}
use Rattle.curves.specs.declared.Curve.{Curve}
use Rattle.curves.specs.declared.Curve.TheVariants as curve

unfoldable pub lent_number : List Float → ℕ → Float
lent_number numbers i = get_or numbers i nan

unfoldable pub lent_arc : List Float → ℕ → Arc
lent_arc numbers marks = record {
  center = record { x = lent_number numbers 0; y = lent_number numbers 1 };
  radius = lent_number numbers 2;
  radius_b = lent_number numbers 3;
  rotation = lent_number numbers 4;
  start = lent_number numbers 5;
  end = lent_number numbers 6;
  ccw = eqb (marks % 2) 1;
  closed = eqb (marks / 2 % 2) 1;
  is_ellipse = eqb (marks / 4 % 2) 1;
}

unfoldable pub lent_curve : List Float → ℕ → Curve
lent_curve numbers marks =
    cond (eqb (marks / 8 % 2) 1)
    (curve.Segment (lent_number numbers 0) (lent_number numbers 1) (lent_number numbers 2) (lent_number numbers 3))
    (curve.Arc (lent_arc numbers marks))
