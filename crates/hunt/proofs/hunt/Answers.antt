-- `hunt`: the tests before the first sample, then the cells of its depth.
use mathlib.Core.Path.{◌≡◌, refl, sym}
use mathlib.Core.Bool.{true, false}
use Prim.Native.Nat.{◌≤◌, ◌^◌}
use native.Mathlib.Omega.{arith}
use lib.Pow.{pow_mono}
use Rattle.hits.proofs.Held.{holds_empty, no_counts}
use Rattle.hunt.specs.Visits.{scanned}
use Rattle.hunt.specs.Hunt.{hunted}
use Rattle.hunt.proofs.Hunts.{hunted_test, hunted-early, hunted_on}
use Rattle.hunt.proofs.hunt.Goals as goal

pub returns-then-early : goal.returns-then-early
returns-then-early c =
    let z = c.args in
    let test = hunted_test z.a z.b _ _ _ true c.new.ensures c.span-span.ensures c.early.ensures c.if-early.true in
    let is = hunted-early z.a z.b z.depth test in
    rw is (holds_empty refl (no_counts c.default.result c.default.ensures))

pub scan-requires : goal.scan-requires
scan-requires c =
    let z = c.args in
    let power : 2 ^ z.depth ≤ 2 ^ 7 = pow_mono c.requires.0 in
    rw c.cell_count-n.ensures (omega arith, c.requires.1)

pub returns : goal.returns
returns c =
    let z = c.args in
    let on = hunted_test z.a z.b _ _ _ false c.new.ensures c.span-span.ensures c.early.ensures c.if-early.false in
    let is : scanned c.new.result z.a.start c.step.result c.closing_cell.result c.cell_count-n.result ≡ hunted z.a z.b z.depth =
    rw (c.step.ensures, c.new.ensures, c.span-span.ensures, c.closing_cell.ensures, c.cell_count-n.ensures) (sym (hunted_on z.a z.b z.depth on)) in
    rw (← is) c.scan.ensures
