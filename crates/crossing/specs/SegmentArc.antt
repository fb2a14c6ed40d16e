-- 01, 'Span and crossings': "segment and arc take the position from the clamped t, smaller root first." 000, `intersect_segment_arc`: "the arc's local frame scales the ellipse to
-- a circle, where the segment-circle quadratic applies". Operation by operation.
use Rattle.std.specs.Prelude.{cond, not, Option, Some, None, Float}
use Rattle.std.specs.Float.Ieee.{lt, neg}
use Rattle.laws.specs.Rounded.{◌⊕◌, ◌⊖◌, ◌⊗◌, ◌⊘◌}
use Rattle.laws.specs.Literal.{zero, one, two, four, ten⁻¹², ten⁻²⁴}
use Rattle.scalar.specs.Clamp.{clamp}
use Rattle.root.specs.SquareRoot.{square_root}
use Rattle.sine.specs.Rule.{sine, cosine}
use Rattle.arctan.specs.Rule.{arctangent}
use Rattle.curves.specs.declared.Point.{Point}
use Rattle.curves.specs.declared.Arc.{Arc}
use Rattle.arc.specs.Span.{arc_param_in_span}
use Rattle.arc.specs.Frame.{arc_radii, to_unit}
use Rattle.hits.specs.declared.CurveHit.{CurveHit}
use Rattle.hits.specs.declared.UpToTwo.{UpToTwo}
use Rattle.hits.specs.declared.UpToTwo.TheVariants.{Zero, One, Two}
use Rattle.hits.specs.Listed as listed
use Rattle.segments.specs.Segments.{on_segment}
use Rattle.crossing.specs.Meet.{meet}

-- where a + t * d is on the unit circle: qa t^2 + qb t + qc = 0
unfoldable pub unit_roots : Point → Point → UpToTwo Float
unit_roots a d =
    let qa = d.x ⊗ d.x ⊕ d.y ⊗ d.y in
    let qb = two ⊗ (a.x ⊗ d.x ⊕ a.y ⊗ d.y) in
    let qc = a.x ⊗ a.x ⊕ a.y ⊗ a.y ⊖ one in
    let disc = qb ⊗ qb ⊖ four ⊗ qa ⊗ qc in
    let sq = square_root disc in
    cond (lt qa ten⁻²⁴) Zero
    (cond (lt disc zero) Zero
    (cond (lt ten⁻¹² sq) (Two ((neg qb ⊖ sq) ⊘ (two ⊗ qa)) ((neg qb ⊕ sq) ⊘ (two ⊗ qa)))
    (One ((neg qb ⊖ sq) ⊘ (two ⊗ qa)))))

-- one root: dropped off the segment, then clamped; the position is the segment's at the clamped parameter
unfoldable pub segment_hit : Point → Point → Arc → Point → Point → Float → Option CurveHit
segment_hit p1 p2 arc a d root =
    let t = clamp root zero one in
    let theta = arctangent (a.y ⊕ t ⊗ d.y) (a.x ⊕ t ⊗ d.x) in
    cond (not (on_segment root)) None
    (meet (Some t) (arc_param_in_span arc theta) (record { x = p1.x ⊕ t ⊗ (p2.x ⊖ p1.x); y = p1.y ⊕ t ⊗ (p2.y ⊖ p1.y) }))

abbrev pub hits_at : Point → Point → Arc → Point → Point → UpToTwo Float → UpToTwo CurveHit
hits_at p1 p2 arc a d Zero = Zero
hits_at p1 p2 arc a d (One t) = listed.one (segment_hit p1 p2 arc a d t)
hits_at p1 p2 arc a d (Two s t) = listed.both (segment_hit p1 p2 arc a d s) (segment_hit p1 p2 arc a d t)

unfoldable pub intersect_segment_arc : Point → Point → Arc → UpToTwo CurveHit
intersect_segment_arc p1 p2 arc =
    let r = arc_radii arc in
    let sr = sine arc.rotation in
    let cr = cosine arc.rotation in
    let a = to_unit p1 arc.center sr cr r in
    let b = to_unit p2 arc.center sr cr r in
    let d : Point = record { x = b.x ⊖ a.x; y = b.y ⊖ a.y } in
    cond (lt r.a ten⁻¹²) Zero
    (cond (lt r.b ten⁻¹²) Zero
    (hits_at p1 p2 arc a d (unit_roots a d)))
