-- 000, `point_to_arc_dist` gives a distance and the point that has it: how far q is from p.
use Rattle.curves.specs.declared.Point.{Point}
use Rattle.segments.specs.Project.{distance}
use Rattle.shapes.specs.declared.Near.{Near}

abbrev pub near : Point → Point → Near
near p q = record { dist = distance p q; pos = q }
