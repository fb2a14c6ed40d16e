-- 01, 'Easy to get wrong': "`point_to_arc_dist` has no slack and a normalised span." "`point_to_arc_dist` takes the end when both ends are equally far". 000, `point_to_arc_dist`
-- from its circle on, operation by operation. The point stands at (dx, dy) from the center.
use Rattle.std.specs.Prelude.{Bool, cond, Float}
use Rattle.std.specs.Float.Ieee.{lt, le}
use Rattle.laws.specs.Rounded.{◌⊕◌, ◌⊖◌, ◌⊗◌, ◌⊘◌}
use Rattle.laws.specs.Literal.{ten⁻¹²}
use Rattle.laws.specs.Size.{abs}
use Rattle.root.specs.Norm.{norm}
use Rattle.sine.specs.Rule.{sine, cosine}
use Rattle.arctan.specs.Rule.{arctangent}
use Rattle.curves.specs.declared.Point.{Point}
use Rattle.curves.specs.declared.Arc.{Arc}
use Rattle.arc.specs.ArcPoint.{arc_start_pos, arc_end_pos}
use Rattle.arc.specs.Span.{norm_tau}
use Rattle.shapes.specs.declared.Near.{Near}
use Rattle.nearest.specs.Near.{near}

-- `((dist_to_center - r).abs(), proj)`, d being the distance to the center
abbrev pub on_ray : Arc → Float → Float → Float → Near
on_ray a dx dy d =
    let r = a.radius in
    record { dist = abs (d ⊖ r); pos = record { x = a.center.x ⊕ r ⊗ dx ⊘ d; y = a.center.y ⊕ r ⊗ dy ⊘ d } }

-- "Full circle: nearest point is projection onto circle"
abbrev pub whole_dist : Arc → Float → Float → Near
whole_dist a dx dy =
    let r = a.radius in
    let d = norm dx dy in
    cond (lt d ten⁻¹²) (record { dist = r; pos = record { x = a.center.x ⊕ r; y = a.center.y } })
    (on_ray a dx dy d)

-- `a_norm <= span`
abbrev pub in_range : Arc → Float → Bool
in_range a angle =
    let sa = a.start in
    let ea = a.end in
    cond a.ccw (le (norm_tau (angle ⊖ sa)) (norm_tau (ea ⊖ sa)))
    (le (norm_tau (sa ⊖ angle)) (norm_tau (sa ⊖ ea)))

-- "Outside arc range: nearest is one of the endpoints"
abbrev pub end_dist : Point → Arc → Near
end_dist p a =
    let start = near p (arc_start_pos a) in
    let end = near p (arc_end_pos a) in
    cond (lt start.dist end.dist) start end

-- "Partial arc: check if angle falls within arc range"
abbrev pub part_dist : Point → Arc → Float → Float → Near
part_dist p a dx dy =
    let r = a.radius in
    let d = norm dx dy in
    let angle = arctangent dy dx in
    cond (in_range a angle)
    (cond (lt d ten⁻¹²)
    (record { dist = r; pos = record { x = a.center.x ⊕ r ⊗ cosine angle; y = a.center.y ⊕ r ⊗ sine angle } })
    (on_ray a dx dy d))
    (end_dist p a)
