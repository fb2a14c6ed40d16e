-- 000, `arc_radii` ("circular arcs use `radius` for both"), `arc_theta_of_pos` ("Uses the arc's local frame") and `arc_param_at_point` ("in the direction of `p` as seen from
-- the center"), operation by operation.
use Rattle.std.specs.Prelude.{cond, Float}
use Rattle.std.specs.Float.Ieee.{neg}
use Rattle.laws.specs.Rounded.{◌⊕◌, ◌⊖◌, ◌⊗◌, ◌⊘◌}
use Rattle.laws.specs.Literal.{ten⁻¹²}
use Rattle.scalar.specs.Extremes.{maximum}
use Rattle.sine.specs.Rule.{sine, cosine}
use Rattle.arctan.specs.Rule.{arctangent}
use Rattle.curves.specs.declared.Point.{Point}
use Rattle.curves.specs.declared.Arc.{Arc}
use Rattle.curves.specs.declared.Radii.{Radii}

unfoldable pub arc_radii : Arc → Radii
arc_radii arc = cond arc.is_ellipse (record { a = arc.radius; b = arc.radius_b }) (record { a = arc.radius; b = arc.radius })

-- `to_unit` of 000: p in the local frame of the ellipse at c with the radii r, scaled so that the curve is a unit circle. sr and cr are the rotation's sine and cosine.
abbrev pub to_unit : Point → Point → Float → Float → Radii → Point
to_unit p c sr cr r =
    let dx = p.x ⊖ c.x in
    let dy = p.y ⊖ c.y in
    record { x = (cr ⊗ dx ⊕ sr ⊗ dy) ⊘ r.a; y = (neg sr ⊗ dx ⊕ cr ⊗ dy) ⊘ r.b }

unfoldable pub arc_theta_of_pos : Arc → Point → Float
arc_theta_of_pos arc p =
    let u = to_unit p arc.center (sine arc.rotation) (cosine arc.rotation) (arc_radii arc) in
    arctangent u.y u.x

unfoldable pub arc_param_at_point : Arc → Point → Float
arc_param_at_point a p =
    let s = sine a.rotation in
    let c = cosine a.rotation in
    let dx = p.x ⊖ a.center.x in
    let dy = p.y ⊖ a.center.y in
    let u = dx ⊗ c ⊕ dy ⊗ s in
    let v = neg dx ⊗ s ⊕ dy ⊗ c in
    arctangent (v ⊘ maximum a.radius_b ten⁻¹²) (u ⊘ maximum a.radius ten⁻¹²)
