-- The frame of two arcs gives 000's own calls: `a.point_at(t)` and `arc_theta_of_pos(b, pos)`.
use mathlib.Core.Path.{◌≡◌, refl, ap, ◌∙◌}
use lib.Ieee.{Float}
use Rattle.sine.specs.declared.SinCos.{SinCos}
use Rattle.curves.specs.declared.Point.{Point}
use Rattle.curves.specs.declared.Arc.{Arc}
use Rattle.arc.specs.Ellipse.{ellipse_point}
use Rattle.arc.specs.ArcPoint.{arc_point_at}
use Rattle.arc.specs.Frame.{arc_theta_of_pos}
use Rattle.hunt_bracket.specs.Frame.{frame, point, unit, theta}

pub frame-point : (a b : Arc) (t : Float) → point (frame a b) t ≡ arc_point_at a t
unfolding frame point ellipse_point
frame-point a b t = refl

pub frame-theta : (a b : Arc) (p : Point) → theta (frame a b) p ≡ arc_theta_of_pos b p
unfolding frame unit theta arc_theta_of_pos
frame-theta a b p = refl

-- a pair is known by its parts
pub sin_cos_is : (r : SinCos) (s c : Float) → (r.sin ≡ s) × (r.cos ≡ c) → ◌≡◌ {A = SinCos} r (record { sin = s; cos = c })
sin_cos_is r s c e = ap (λ (x : Float). record { sin = x; cos = r.cos }) e.0 ∙ ap (λ (x : Float). record { sin = s; cos = x }) e.1
