-- `export_crossings::closed::arcs_intersect_segments` meets its contract.
use Rattle.export_crossings.proofs.Rooms.{hits_out, hits_short}
use Rattle.calls_crossings.specs.Answers.{segments_answer}
use Rattle.export_crossings.proofs.closed.arcs_intersect_segments.Goals as goal

pub returns-then-counts-lt1 : goal.returns-then-counts-lt1
returns-then-counts-lt1 c =
    hits_short (segments_answer _ _ _ _) (rw c.segments_refusal.ensures at c.short.ensures) c.if-counts-lt1.true

pub returns : goal.returns
returns c =
    rw c.write_counts.ensures.refusal
    (hits_out (segments_answer _ _ _ _) c.intersect_segments.ensures
    c.if-counts-lt1.false
    c.write_counts.ensures.counts)
