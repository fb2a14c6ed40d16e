use mathlib.Core.Path.{sym, ◌∙◌}
use native.Mathlib.Omega.{arith}
use Rattle.rooms.proofs.Laws.{stored_next, stored-done, stored-over}
use Rattle.export_numbers.proofs.out.place.Goals as goal

pub loop-i-preserved : goal.loop-i-preserved
loop-i-preserved g c =
    let l = c.loop-i in
    l.invariant ∙ rw c.index-values-i.is (stored_next c.args.values.now l.i c.index-values-i.result l.out (omega arith))

pub returns : goal.returns
returns g c =
    let l = c.loop-i in
    let z = c.args in
    sym (l.invariant ∙ stored-done z.values.now l.i l.out (omega arith)) ∙ stored-over z.values.now z.out.now c.requires
