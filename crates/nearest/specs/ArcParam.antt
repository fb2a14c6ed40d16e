-- 000, `nearest_arc_param`: "In-span parametric angle of the point on the arc nearest to `p`. For partial arcs a nearest point outside the span clamps to the nearer endpoint's
-- angle." 01, 'Easy to get wrong': "`point_to_arc_dist` takes the end when both ends are equally far, `nearest_arc_param` the start." Operation by operation.
use Rattle.std.specs.Prelude.{cond, not, Option, unwrap_or, Float}
use Rattle.std.specs.Float.Ieee.{le}
use Rattle.laws.specs.Rounded.{◌⊕◌, ◌⊖◌}
use Rattle.laws.specs.Size.{abs}
use Rattle.laws.specs.Middle.{middle}
use Rattle.laws.specs.Part.{part}
use Rattle.scalar.specs.Angles.{tau}
use Rattle.scalar.specs.Extremes.{minimum, maximum}
use Rattle.scalar.specs.Clamp.{clamp}
use Rattle.arctan.specs.Rule.{arctangent}
use Rattle.curves.specs.declared.Point.{Point}
use Rattle.curves.specs.declared.Arc.{Arc}
use Rattle.arc.specs.ArcPoint.{arc_start_pos, arc_end_pos}
use Rattle.arc.specs.Span.{arc_param_in_span}
use Rattle.nearest.specs.Squared.{squared_dist}
use Rattle.nearest.specs.Samples.{best_of}
use Rattle.nearest.specs.Thirds.{thirds}

-- "Outside span: nearer endpoint."
abbrev pub end_param : Arc → Point → Float
end_param arc p =
    let ds = squared_dist p (arc_start_pos arc) in
    let de = squared_dist p (arc_end_pos arc) in
    cond (le ds de) arc.start arc.end

-- `if let Some(t) = .. { return t; }`, and else the end's
abbrev pub on_circle : Arc → Point → Float
on_circle arc p =
    let theta = arctangent (p.y ⊖ arc.center.y) (p.x ⊖ arc.center.x) in
    unwrap_or (arc_param_in_span arc theta) (end_param arc p)

-- `ea`
abbrev pub last_angle : Arc → Float
last_angle arc = cond arc.closed (arc.start ⊕ tau) arc.end

-- "Ellipse: sample the span, refine by local search."
abbrev pub on_ellipse : Arc → Point → Float
on_ellipse arc p =
    let sa = arc.start in
    let ea = last_angle arc in
    let bestT = (best_of arc p (ea ⊖ sa) 128).t in
    let cell = part (abs (ea ⊖ sa)) 128 in
    let s = thirds arc p 40 (record { lo = bestT ⊖ cell; hi = bestT ⊕ cell }) in
    clamp (middle s.lo s.hi) (minimum sa ea) (maximum sa ea)

abbrev pub nearest_arc_param : Arc → Point → Float
nearest_arc_param arc p = cond (not arc.is_ellipse) (on_circle arc p) (on_ellipse arc p)
