-- `export_crossings::closed::arcs_intersect_segment_arc` meets its contract.
use Rattle.export_crossings.proofs.Rooms.{hits_out, hits_short}
use Rattle.calls_crossings.specs.Answers.{segment_arc_answer}
use Rattle.export_crossings.proofs.closed.arcs_intersect_segment_arc.Goals as goal

pub returns-then-counts-lt1 : goal.returns-then-counts-lt1
returns-then-counts-lt1 c =
    rw (← c.arc-q.ensures)
    (hits_short (segment_arc_answer _ _ _) (rw c.segment_arc_refusal.ensures at c.short.ensures) c.if-counts-lt1.true)

pub returns : goal.returns
returns c =
    rw (c.write_counts.ensures.refusal, ← c.arc-q.ensures)
    (hits_out (segment_arc_answer _ _ _) c.intersect_segment_arc.ensures
    c.if-counts-lt1.false
    c.write_counts.ensures.counts)
