-- 000, `point_to_ellipse_dist`: "Nearest point on an ellipse via tessellation + Newton refinement." "Also check endpoints explicitly". Operation by operation.
use Rattle.std.specs.Prelude.{cond, ◌&&◌, Float}
use Rattle.std.specs.Float.Ieee.{lt}
use Rattle.laws.specs.Rounded.{◌⊕◌, ◌⊖◌}
use Rattle.scalar.specs.Angles.{tau}
use Rattle.curves.specs.declared.Point.{Point}
use Rattle.curves.specs.declared.Arc.{Arc}
use Rattle.arc.specs.ArcPoint.{arc_point_at, arc_start_pos, arc_end_pos}
use Rattle.shapes.specs.declared.Near.{Near}
use Rattle.nearest.specs.Near.{near}
use Rattle.nearest.specs.Samples.{best_of}
use Rattle.nearest.specs.Thirds.{between}
use Rattle.nearest.specs.Newton.{newton}

abbrev pub nearest_of : Near → Near → Near → Near
nearest_of start end found =
    cond (lt start.dist found.dist && lt start.dist end.dist) start
    (cond (lt end.dist found.dist) end
    found)

abbrev pub span : Arc → Float
span a = cond a.closed tau (a.end ⊖ a.start)

abbrev pub point_to_ellipse_dist : Point → Arc → Near
point_to_ellipse_dist p a =
    let sa = a.start in
    let within = between sa (sa ⊕ span a) in
    let t = newton a p within.lo within.hi 8 (best_of a p (span a) 64).t in
    nearest_of (near p (arc_start_pos a)) (near p (arc_end_pos a)) (near p (arc_point_at a t))
