-- 000, `intersect_circle_circle`: "Closed-form circle-circle intersection with span filtering on both arcs. Tangency (single touch point) is included." Operation by operation.
use Rattle.std.specs.Prelude.{cond, Option, Float}
use Rattle.std.specs.Float.Ieee.{lt}
use Rattle.laws.specs.Rounded.{◌⊕◌, ◌⊖◌, ◌⊗◌, ◌⊘◌}
use Rattle.laws.specs.Literal.{zero, two, ten⁻⁹, ten⁻¹²}
use Rattle.laws.specs.Size.{abs}
use Rattle.root.specs.SquareRoot.{square_root}
use Rattle.root.specs.Norm.{norm}
use Rattle.arctan.specs.Rule.{arctangent}
use Rattle.curves.specs.declared.Point.{Point}
use Rattle.curves.specs.declared.Arc.{Arc}
use Rattle.arc.specs.Span.{arc_param_in_span}
use Rattle.hits.specs.declared.CurveHit.{CurveHit}
use Rattle.hits.specs.declared.UpToTwo.{UpToTwo}
use Rattle.hits.specs.declared.UpToTwo.TheVariants.{Zero}
use Rattle.hits.specs.Listed.{one, both}
use Rattle.crossing.specs.Meet.{meet}

-- `if h2 > 0.0 { h2.sqrt() } else { 0.0 }`
unfoldable pub half_chord : Float → Float
half_chord h2 = cond (lt zero h2) (square_root h2) zero

-- a position that is kept where both arcs' spans have its angle
unfoldable pub candidate : Arc → Arc → Point → Option CurveHit
candidate a b pos =
    let ta = arctangent (pos.y ⊖ a.center.y) (pos.x ⊖ a.center.x) in
    let tb = arctangent (pos.y ⊖ b.center.y) (pos.x ⊖ b.center.x) in
    meet (arc_param_in_span a ta) (arc_param_in_span b tb) pos

unfoldable pub candidates : Arc → Arc → Point → Float → Float → Float → Float → Float → UpToTwo CurveHit
candidates a b foot dx dy d h tol =
    cond (lt h tol) (one (candidate a b foot))
    (both
    (candidate a b (record { x = foot.x ⊖ h ⊗ dy ⊘ d; y = foot.y ⊕ h ⊗ dx ⊘ d }))
    (candidate a b (record { x = foot.x ⊕ h ⊗ dy ⊘ d; y = foot.y ⊖ h ⊗ dx ⊘ d })))

unfoldable pub intersect_circle_circle : Arc → Arc → UpToTwo CurveHit
intersect_circle_circle a b =
    let r1 = a.radius in
    let r2 = b.radius in
    let dx = b.center.x ⊖ a.center.x in
    let dy = b.center.y ⊖ a.center.y in
    let d = norm dx dy in
    let tol = ten⁻⁹ ⊗ (r1 ⊕ r2 ⊕ d) in
    let along = (r1 ⊗ r1 ⊖ r2 ⊗ r2 ⊕ d ⊗ d) ⊘ (two ⊗ d) in
    let h = half_chord (r1 ⊗ r1 ⊖ along ⊗ along) in
    cond (lt d ten⁻¹²) Zero
    (cond (lt (r1 ⊕ r2 ⊕ tol) d) Zero
    (cond (lt d (abs (r1 ⊖ r2) ⊖ tol)) Zero
    (candidates a b (record { x = a.center.x ⊕ along ⊗ dx ⊘ d; y = a.center.y ⊕ along ⊗ dy ⊘ d }) dx dy d h tol)))
