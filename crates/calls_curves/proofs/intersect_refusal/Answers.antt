-- `calls_curves::intersect_refusal` meets its contract: at a depth that is refused the hits do not matter.
use mathlib.Core.Path.{ap}
use Prim.Native.Nat.{ℕ}
use Rattle.hits.specs.Need.{short}
use Rattle.checks.proofs.Tested.{refusal_room, tested-append}
use Rattle.calls_curves.proofs.intersect_refusal.Goals as goal

pub returns : goal.returns
returns c =
    let a = c.args in
    rw (c.refusal.ensures, c.deep.ensures, c.short-short.ensures, c.curve-2.ensures, c.curve.ensures, c.none.ensures, tested-append)
    (refusal_room _ a.depth _ _ (λ h. ap (λ (n : ℕ). short n a.lent) (c.curves_hits.ensures h)))
