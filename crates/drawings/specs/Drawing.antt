-- 01, 'What a caller may conclude': "Drawings with * are theorems of the definitions, held as one table." A drawing has a call and the numbers that it gives.
use Rattle.std.specs.Prelude.{ℕ, true, false, List, [], ◌∷◌, map, ◌++◌, Float}
use Rattle.std.specs.Float.{binary64}
use Rattle.std.specs.Float.Ieee.{to_bits}
use Rattle.laws.specs.Literal.{zero}
use Rattle.scalar.specs.Angles.{tau}
use Rattle.curves.specs.declared.Point.{Point}
use Rattle.rooms.specs.Laid.{flat}
use Rattle.hits.specs.declared.CurveHit.{CurveHit}
use Rattle.construct.specs.Circumscribed.{circumscribed_arc}
use Rattle.construct.specs.TangentCircle.{circle_tangent_through}
use Rattle.checks.specs.Answer.{Answer}
use Rattle.curves.specs.declared.Curve.{Curve}
use Rattle.curves.specs.declared.Curve.TheVariants as curve
use Rattle.calls_curves.specs.Curves.{curves_outcome}
use Rattle.calls_answers.specs.Shape.{three_point_told, tangent_circle_told}

pub data Call : Type 0 where
  cross : Curve → Curve → Call
  circle_through arc_through : Point → Point → Point → Call

-- hits by the bits of t_a, t_b, x and y, one hit after the other; other answers by the bits of their numbers, then the mark ccw
pub record Drawing : Type 0 where
  pub call : Call
  pub gives : List ℕ

-- "Rotation 0, closed circles start at 0."
abbrev pub circle : Float → Float → Float → Curve
circle x y r =
    curve.Arc (record {
      center = record { x = x; y = y };
      radius = r;
      radius_b = r;
      rotation = zero;
      start = zero;
      end = tau;
      ccw = true;
      closed = true;
      is_ellipse = false;
    })

-- what a drawing says of a hit
abbrev pub seen : CurveHit → List Float
seen h = h.t_a ∷ h.t_b ∷ h.pos.x ∷ h.pos.y ∷ []

abbrev pub told : Answer → List ℕ
told a = map (to_bits binary64) a.numbers ++ a.counts

-- what the definitions give, a query at depth 0
unfoldable pub found : Call → List ℕ
unfolding flat
found (cross a b) = map (to_bits binary64) (flat seen (curves_outcome a b 0).hits)
found (circle_through s e t) = told (tangent_circle_told (circle_tangent_through s e t))
found (arc_through p1 p2 p3) = told (three_point_told (circumscribed_arc p1 p2 p3))
