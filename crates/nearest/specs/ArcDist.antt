-- 000, `point_to_arc_dist`: an ellipse, a full circle or a partial arc.
use Rattle.std.specs.Prelude.{cond}
use Rattle.laws.specs.Rounded.{◌⊖◌}
use Rattle.curves.specs.declared.Point.{Point}
use Rattle.curves.specs.declared.Arc.{Arc}
use Rattle.shapes.specs.declared.Near.{Near}
use Rattle.nearest.specs.EllipseDist.{point_to_ellipse_dist}
use Rattle.nearest.specs.CircleDist.{whole_dist, part_dist}

abbrev pub point_to_arc_dist : Point → Arc → Near
point_to_arc_dist p a =
    let dx = p.x ⊖ a.center.x in
    let dy = p.y ⊖ a.center.y in
    cond a.is_ellipse (point_to_ellipse_dist p a)
    (cond a.closed (whole_dist a dx dy)
    (part_dist p a dx dy))
