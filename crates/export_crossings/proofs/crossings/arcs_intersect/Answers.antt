-- `export_crossings::crossings::arcs_intersect` meets its contract.
use Rattle.export_crossings.proofs.Rooms.{hits_out, hits_short}
use Rattle.calls_curves.specs.Curves.{curves_answer}
use Rattle.export_crossings.proofs.crossings.arcs_intersect.Goals as goal

pub returns-then-counts-lt6 : goal.returns-then-counts-lt6
returns-then-counts-lt6 c =
    let p = c.curve-p.result in
    let q = c.curve-q.result in
    let depth = c.args.depth in
    rw (← c.curve-p.ensures, ← c.curve-q.ensures)
    (hits_short (curves_answer p q depth) (rw c.intersect_refusal.ensures at c.short.ensures) c.if-counts-lt6.true)

pub returns : goal.returns
returns c =
    let p = c.curve-p.result in
    let q = c.curve-q.result in
    let depth = c.args.depth in
    rw (c.write_counts.ensures.refusal, ← c.curve-p.ensures, ← c.curve-q.ensures)
    (hits_out (curves_answer p q depth) c.intersect.ensures
    c.if-counts-lt6.false
    c.write_counts.ensures.counts)
