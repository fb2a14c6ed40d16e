-- 01, 'The program arcdesk and its lines': "A curve is either a segment's four numbers or an arc's record." Its query goes by the two cases; for an arc against a segment the segment's
-- call is made and the parameters are exchanged.
use Rattle.std.specs.Prelude.{ℕ, ◌++◌}
use Rattle.curves.specs.At.{at}
use Rattle.hits.specs.Listed.{listed, one, exchanged}
use Rattle.segments.specs.Segments.{intersect_segments}
use Rattle.crossing.specs.SegmentArc.{intersect_segment_arc}
use Rattle.hits.specs.Outcome.{Outcome}
use Rattle.curves.specs.declared.Curve.{Curve}
use Rattle.curves.specs.declared.Curve.TheVariants as curve
use Rattle.checks.specs.Given.{curve_numbers}
use Rattle.calls_crossings.specs.Crossed.{HitsAnswer}
use Rattle.calls_crossings.specs.Answers.{hunt_answer}
use Rattle.calls_crossings.specs.Need.{segments_hits, closed_hits, pair_hits}
use Rattle.hits.specs.Outcome.{closed}
use Rattle.calls_crossings.specs.Pairs.{pair_outcome}

-- how many hits they may need room for
abbrev pub curves_hits : Curve → Curve → ℕ → ℕ
curves_hits (curve.Segment x1 y1 x2 y2) (curve.Segment u1 v1 u2 v2) depth = segments_hits
curves_hits (curve.Segment x1 y1 x2 y2) (curve.Arc b) depth = closed_hits
curves_hits (curve.Arc a) (curve.Segment u1 v1 u2 v2) depth = closed_hits
curves_hits (curve.Arc a) (curve.Arc b) depth = pair_hits a b depth

abbrev pub curves_outcome : Curve → Curve → ℕ → Outcome
curves_outcome (curve.Segment x1 y1 x2 y2) (curve.Segment u1 v1 u2 v2) depth = closed (listed (one (intersect_segments (at x1 y1) (at x2 y2) (at u1 v1) (at u2 v2))))
curves_outcome (curve.Segment x1 y1 x2 y2) (curve.Arc b) depth = closed (listed (intersect_segment_arc (at x1 y1) (at x2 y2) b))
curves_outcome (curve.Arc a) (curve.Segment u1 v1 u2 v2) depth = closed (listed (exchanged (intersect_segment_arc (at u1 v1) (at u2 v2) a)))
curves_outcome (curve.Arc a) (curve.Arc b) depth = pair_outcome a b depth

abbrev pub curves_answer : Curve → Curve → ℕ → HitsAnswer
curves_answer a b depth = hunt_answer (curve_numbers a ++ curve_numbers b) depth (curves_hits a b depth) (curves_outcome a b depth)
