-- 000, `line_line_intersection`: "Intersection of two infinite lines (p1-p2 and p3-p4). Returns midpoint of closest approach if nearly parallel." Operation by operation.
use Rattle.std.specs.Prelude.{cond}
use Rattle.std.specs.Float.Ieee.{lt}
use Rattle.laws.specs.Rounded.{◌⊕◌, ◌⊖◌, ◌⊗◌, ◌⊘◌}
use Rattle.laws.specs.Literal.{two, ten⁻¹²}
use Rattle.laws.specs.Size.{abs}
use Rattle.curves.specs.declared.Point.{Point}

unfoldable pub line_line_intersection : Point → Point → Point → Point → Point
line_line_intersection p1 p2 p3 p4 =
    let d1x = p2.x ⊖ p1.x in
    let d1y = p2.y ⊖ p1.y in
    let d2x = p4.x ⊖ p3.x in
    let d2y = p4.y ⊖ p3.y in
    let denom = d1x ⊗ d2y ⊖ d1y ⊗ d2x in
    let t = ((p3.x ⊖ p1.x) ⊗ d2y ⊖ (p3.y ⊖ p1.y) ⊗ d2x) ⊘ denom in
    cond (lt (abs denom) ten⁻¹²)
    (record { x = (p1.x ⊕ p3.x) ⊘ two; y = (p1.y ⊕ p3.y) ⊘ two })
    (record { x = p1.x ⊕ t ⊗ d1x; y = p1.y ⊕ t ⊗ d1y })
