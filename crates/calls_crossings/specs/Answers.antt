-- 01, 'What a caller may conclude': "Each public call's contract determines the result and all numbers in the room afterwards, refusals too". What each call with a room answers, by the
-- call's name.
use Rattle.std.specs.Prelude.{ℕ, false, List, [], ◌∷◌, ◌++◌, length}
use Rattle.curves.specs.declared.Point.{Point}
use Rattle.curves.specs.declared.Arc.{Arc}
use Rattle.hits.specs.declared.CurveHit.{CurveHit}
use Rattle.hits.specs.Need.{short}
use Rattle.hits.specs.Listed.{listed, one}
use Rattle.segments.specs.Segments.{intersect_segments}
use Rattle.crossing.specs.SegmentArc.{intersect_segment_arc}
use Rattle.hits.specs.Outcome.{Outcome, tally}
use Rattle.checks.specs.Given.{Given, point, arc_numbers}
use Rattle.checks.specs.Refusal.{deep, refusal_of}
use Rattle.checks.specs.Answer.{tally_counts}
use Rattle.calls_crossings.specs.Crossed.{HitsAnswer}
use Rattle.calls_crossings.specs.Need.{segments_hits, closed_hits, pair_hits}
use Rattle.calls_crossings.specs.Pairs.{pair_outcome}

-- in closed form, with room for so many hits: no depth, and the one count is how many hits there are
abbrev pub closed_answer : List Given → ℕ → List CurveHit → HitsAnswer
closed_answer gs most hs = record { refusal = λ lent. refusal_of gs false (short most lent); hits = hs; counts = length hs ∷ [] }

-- with a depth: the counts are those of a hunt
abbrev pub hunt_answer : List Given → ℕ → ℕ → Outcome → HitsAnswer
hunt_answer gs depth most o = record { refusal = λ lent. refusal_of gs (deep depth) (short most lent); hits = o.hits; counts = tally_counts (tally o) }

abbrev pub segments_answer : Point → Point → Point → Point → HitsAnswer
segments_answer a1 a2 b1 b2 = closed_answer (point a1 ++ point a2 ++ point b1 ++ point b2) segments_hits (listed (one (intersect_segments a1 a2 b1 b2)))

abbrev pub segment_arc_answer : Point → Point → Arc → HitsAnswer
segment_arc_answer p1 p2 a = closed_answer (point p1 ++ point p2 ++ arc_numbers a) closed_hits (listed (intersect_segment_arc p1 p2 a))

abbrev pub arcs_answer : Arc → Arc → ℕ → HitsAnswer
arcs_answer a b depth = hunt_answer (arc_numbers a ++ arc_numbers b) depth (pair_hits a b depth) (pair_outcome a b depth)
