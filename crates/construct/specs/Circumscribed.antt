-- 000, `circumscribed_arc`: "Compute circumscribed circle arc from 3 points (start, end, mid on arc). Returns (center, radius, start_angle, end_angle, ccw) or None if collinear.
-- `ccw` is true if the arc from p1 to p2 passing through p3 goes counter-clockwise." Operation by operation.
use Rattle.std.specs.Prelude.{cond, Option, Some, None, Float}
use Rattle.std.specs.Float.Ieee.{lt}
use Rattle.laws.specs.Rounded.{◌⊕◌, ◌⊖◌, ◌⊗◌, ◌⊘◌}
use Rattle.laws.specs.Literal.{two, ten⁻¹²}
use Rattle.laws.specs.Size.{abs}
use Rattle.arctan.specs.Rule.{arctangent}
use Rattle.curves.specs.declared.Point.{Point}
use Rattle.arc.specs.Span.{norm_tau}
use Rattle.shapes.specs.declared.Circumscribed.{Circumscribed}
use Rattle.root.specs.Norm.{norm}

-- `(ay - uy).atan2(ax - ux)`: the angle of p as seen from u
abbrev pub bearing : Point → Point → Float
bearing u p = arctangent (p.y ⊖ u.y) (p.x ⊖ u.x)

-- the point that is equally far from a, b and c, where d is twice the determinant of the three
abbrev pub circumcenter : Point → Point → Point → Float → Point
circumcenter a b c d =
    let aa = a.x ⊗ a.x ⊕ a.y ⊗ a.y in
    let bb = b.x ⊗ b.x ⊕ b.y ⊗ b.y in
    let cc = c.x ⊗ c.x ⊕ c.y ⊗ c.y in
    record {
      x = (aa ⊗ (b.y ⊖ c.y) ⊕ bb ⊗ (c.y ⊖ a.y) ⊕ cc ⊗ (a.y ⊖ b.y)) ⊘ d;
      y = (aa ⊗ (c.x ⊖ b.x) ⊕ bb ⊗ (a.x ⊖ c.x) ⊕ cc ⊗ (b.x ⊖ a.x)) ⊘ d;
    }

-- None for points on a line
abbrev pub circumscribed_arc : Point → Point → Point → Option Circumscribed
circumscribed_arc a b c =
    let d = two ⊗ (a.x ⊗ (b.y ⊖ c.y) ⊕ b.x ⊗ (c.y ⊖ a.y) ⊕ c.x ⊗ (a.y ⊖ b.y)) in
    let u = circumcenter a b c d in
    let sa = bearing u a in
    let ea = bearing u b in
    let ma = bearing u c in
    cond (lt (abs d) ten⁻¹²) None
    (Some (record {
      center = u;
      radius = norm (a.x ⊖ u.x) (a.y ⊖ u.y);
      start = sa;
      end = ea;
      ccw = lt (norm_tau (ma ⊖ sa)) (norm_tau (ea ⊖ sa));
    }))
