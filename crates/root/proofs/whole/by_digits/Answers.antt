use Rattle.root.proofs.Turns.{taken, bounded}
use Rattle.root.proofs.whole.by_digits.Goals as goal

pub turn-d-requires : goal.turn-d-requires
turn-d-requires c = (bounded _ _ _ _ _ c.loop.auto.counter-end c.loop.invariant, c.loop.invariant.least)

pub loop-preserved : goal.loop-preserved
loop-preserved c = taken _ _ _ _ _ _ _ _ c.loop.invariant c.turn-d.ensures
