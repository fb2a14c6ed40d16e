-- `calls_crossings::crossings::pair` meets its contract.
use native.Mathlib.Omega.{arith}
use Rattle.calls_crossings.proofs.Rooms.{hits_hunted, hits_closed, pair_hunted, pair_closed, two_fit}
use Rattle.calls_crossings.proofs.crossings.pair.Goals as goal

pub hunt-requires : goal.hunt-requires
hunt-requires c =
    (omega (arith, c.requires.0), rw (hits_hunted c.args.a c.args.b c.args.depth c.if-a-b.true) at c.requires.1)

pub returns-then-a-b : goal.returns-then-a-b
returns-then-a-b c =
    let a = c.args in
    let is = pair_hunted a.a a.b a.depth c.if-a-b.true in
    rw is c.hunt.ensures

pub closed-requires : goal.closed-requires
closed-requires c =
    let a = c.args in
    two_fit c.intersect_circle_circle.result _ (rw (hits_closed a.a a.b a.depth c.if-a-b.false) at c.requires.1)

pub returns : goal.returns
returns c =
    let a = c.args in
    let is = pair_closed a.a a.b a.depth c.if-a-b.false in
    rw (is, ← c.intersect_circle_circle.ensures) c.closed.ensures
