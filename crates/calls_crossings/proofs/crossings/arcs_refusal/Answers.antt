-- `calls_crossings::crossings::arcs_refusal` meets its contract: at a depth that is refused the hits do not matter.
use mathlib.Core.Path.{ap}
use Prim.Native.Nat.{ℕ}
use Rattle.hits.specs.Need.{short}
use Rattle.checks.specs.Given.{tested}
use Rattle.checks.proofs.Tested.{refusal_room}
use Rattle.calls_crossings.proofs.crossings.arcs_refusal.Goals as goal

pub returns : goal.returns
unfolding tested
returns c =
    let a = c.args in
    rw (c.refusal.ensures, c.deep.ensures, c.short-short.ensures, c.arc-2.ensures, c.arc.ensures, c.none.ensures)
    (refusal_room _ a.depth _ _ (λ h. ap (λ (n : ℕ). short n a.lent) (c.pair_hits.ensures h)))
