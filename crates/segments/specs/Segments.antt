-- 01, 'Span and crossings': "A segment pair clamps its parameters, but its position uses the unclamped t_a". 000, `intersect_segments`, operation by operation.
use Rattle.std.specs.Prelude.{Bool, cond, not, ◌&&◌, Option, Some, None, Float}
use Rattle.std.specs.Float.Ieee.{lt, le, neg}
use Rattle.laws.specs.Rounded.{◌⊕◌, ◌⊖◌, ◌⊗◌, ◌⊘◌}
use Rattle.laws.specs.Literal.{zero, one, ten⁻⁹, ten⁻¹²}
use Rattle.laws.specs.Size.{abs}
use Rattle.scalar.specs.Clamp.{clamp}
use Rattle.curves.specs.declared.Point.{Point}
use Rattle.hits.specs.Hit.{hit_of}
use Rattle.hits.specs.declared.CurveHit.{CurveHit}

-- `(-eps..=1.0 + eps).contains(&t)`
unfoldable pub on_segment : Float → Bool
on_segment t = le (neg ten⁻⁹) t && le t (one ⊕ ten⁻⁹)

unfoldable pub intersect_segments : Point → Point → Point → Point → Option CurveHit
intersect_segments a1 a2 b1 b2 =
    let d1x = a2.x ⊖ a1.x in
    let d1y = a2.y ⊖ a1.y in
    let d2x = b2.x ⊖ b1.x in
    let d2y = b2.y ⊖ b1.y in
    let denom = d1x ⊗ d2y ⊖ d1y ⊗ d2x in
    let t_a = ((b1.x ⊖ a1.x) ⊗ d2y ⊖ (b1.y ⊖ a1.y) ⊗ d2x) ⊘ denom in
    let t_b = ((b1.x ⊖ a1.x) ⊗ d1y ⊖ (b1.y ⊖ a1.y) ⊗ d1x) ⊘ denom in
    cond (lt (abs denom) ten⁻¹²) None
    (cond (not (on_segment t_a)) None
    (cond (not (on_segment t_b)) None
    (Some (hit_of (clamp t_a zero one) (clamp t_b zero one) (record { x = a1.x ⊕ t_a ⊗ d1x; y = a1.y ⊕ t_a ⊗ d1y })))))
