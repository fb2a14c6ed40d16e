-- 000, `circle_tangent_through`: "The circle through `s` and `e` whose tangent at `s` is `t` (direction, either sign): center and radius. None when `e` lies on that tangent line
-- (no such circle) or the points coincide." Operation by operation.
use Rattle.std.specs.Prelude.{cond, Option, Some, None}
use Rattle.std.specs.Float.Ieee.{lt, neg}
use Rattle.laws.specs.Rounded.{◌⊕◌, ◌⊖◌, ◌⊗◌, ◌⊘◌}
use Rattle.laws.specs.Literal.{two, ten⁻¹²}
use Rattle.laws.specs.Size.{abs}
use Rattle.curves.specs.declared.Point.{Point}
use Rattle.shapes.specs.declared.Circle.{Circle}
use Rattle.root.specs.Norm.{norm}

-- None for a tangent without direction, then None for an end on the tangent
abbrev pub circle_tangent_through : Point → Point → Point → Option Circle
circle_tangent_through s e t =
    let tl = norm t.x t.y in
    let n : Point = record { x = neg t.y ⊘ tl; y = t.x ⊘ tl } in
    let dx = e.x ⊖ s.x in
    let dy = e.y ⊖ s.y in
    let dn = dx ⊗ n.x ⊕ dy ⊗ n.y in
    let k = (dx ⊗ dx ⊕ dy ⊗ dy) ⊘ (two ⊗ dn) in
    cond (lt tl ten⁻¹²) None
    (cond (lt (abs dn) ten⁻¹²) None
    (Some (record { center = record { x = s.x ⊕ k ⊗ n.x; y = s.y ⊕ k ⊗ n.y }; radius = abs k })))
