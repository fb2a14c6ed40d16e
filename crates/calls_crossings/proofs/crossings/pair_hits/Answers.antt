-- `calls_crossings::crossings::pair_hits` meets its contract.
use mathlib.Core.Path.{sym}
use Rattle.calls_crossings.proofs.Rooms.{hits_hunted, hits_closed}
use Rattle.calls_crossings.proofs.crossings.pair_hits.Goals as goal

pub returns-then-a-b : goal.returns-then-a-b
returns-then-a-b c h =
    let a = c.args in
    rw c.cell_count.ensures (sym (hits_hunted a.a a.b a.depth c.if-a-b.true))

pub returns : goal.returns
returns c h =
    let a = c.args in
    sym (hits_closed a.a a.b a.depth c.if-a-b.false)
