-- 01, 'Span and crossings': "The inside-outside value of an angle is 000's `g` there: b's implicit equation at that point of a, 0 on b, negative inside."
-- 000, `intersect_arcs`, operation by operation; what does not hang on the angle stands in a frame. `proofs/Frames.antt` shows that the point is `a.point_at(t)` and the
-- angle on b `arc_theta_of_pos(b, pos)`.
use Rattle.std.specs.Prelude.{Float}
use Rattle.laws.specs.Rounded.{◌⊕◌, ◌⊖◌, ◌⊗◌}
use Rattle.laws.specs.Literal.{one}
use Rattle.sine.specs.Rule.{sine, cosine}
use Rattle.arctan.specs.Rule.{arctangent}
use Rattle.curves.specs.declared.Point.{Point}
use Rattle.curves.specs.declared.Arc.{Arc}
use Rattle.arc.specs.Ellipse.{turn_point}
use Rattle.arc.specs.Frame.{arc_radii, to_unit}
use Rattle.hunt_bracket.specs.declared.Frame.{Frame}

unfoldable pub frame : Arc → Arc → Frame
frame a b = record {
  a = a;
  b = b;
  turn_a = record { sin = sine a.rotation; cos = cosine a.rotation };
  turn_b = record { sin = sine b.rotation; cos = cosine b.rotation };
  radii = arc_radii b;
}

-- a's point at the angle t
unfoldable pub point : Frame → Float → Point
point f t = turn_point f.a.center f.a.radius f.a.radius_b f.turn_a.sin f.turn_a.cos (sine t) (cosine t)

-- (xl, yl) of 000: on the unit circle where p is on b's curve
unfoldable pub unit : Frame → Point → Point
unit f p = to_unit p f.b.center f.turn_b.sin f.turn_b.cos f.radii

-- `xl * xl + yl * yl - 1.0`
unfoldable pub value : Frame → Float → Float
value f t =
    let u = unit f (point f t) in
    u.x ⊗ u.x ⊕ u.y ⊗ u.y ⊖ one

-- the angle on b of the point p
unfoldable pub theta : Frame → Point → Float
theta f p = let u = unit f p in arctangent u.y u.x
