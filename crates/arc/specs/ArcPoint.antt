-- 002, `Arc::point_at`, `tangent_at`, `start_pos`, `end_pos`: a point, a tangent and the ends of an arc are those of its ellipse.
use Rattle.std.specs.Prelude.{Float}
use Rattle.curves.specs.declared.Point.{Point}
use Rattle.curves.specs.declared.Arc.{Arc}
use Rattle.arc.specs.Ellipse.{ellipse_point, ellipse_tangent}

abbrev pub arc_point_at : Arc → Float → Point
arc_point_at a t = ellipse_point a.center a.radius a.radius_b a.rotation t

abbrev pub arc_tangent_at : Arc → Float → Point
arc_tangent_at a t = ellipse_tangent a.radius a.radius_b a.rotation t

abbrev pub arc_start_pos : Arc → Point
arc_start_pos a = arc_point_at a a.start

abbrev pub arc_end_pos : Arc → Point
arc_end_pos a = arc_point_at a a.end
