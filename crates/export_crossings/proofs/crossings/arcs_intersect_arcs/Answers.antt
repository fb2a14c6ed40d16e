-- `export_crossings::crossings::arcs_intersect_arcs` meets its contract.
use Rattle.export_crossings.proofs.Rooms.{hits_out, hits_short}
use Rattle.calls_crossings.specs.Answers.{arcs_answer}
use Rattle.export_crossings.proofs.crossings.arcs_intersect_arcs.Goals as goal

pub returns-then-counts-lt6 : goal.returns-then-counts-lt6
returns-then-counts-lt6 c =
    rw (← c.arc-p.ensures, ← c.arc-q.ensures)
    (hits_short (arcs_answer _ _ _) (rw c.arcs_refusal.ensures at c.short.ensures) c.if-counts-lt6.true)

pub returns : goal.returns
returns c =
    rw (c.write_counts.ensures.refusal, ← c.arc-p.ensures, ← c.arc-q.ensures)
    (hits_out (arcs_answer _ _ _) c.intersect_arcs.ensures
    c.if-counts-lt6.false
    c.write_counts.ensures.counts)
