-- `arctan::horner::rough_step` meets its contract.
use Rattle.std.proofs.Common.{refl, arith}
use Rattle.arctan.specs.Rule.{rough_step}
use Rattle.arctan.proofs.Steps.{rough_small, rough-number}
use Rattle.arctan.proofs.horner.rough_step.Goals as goal

pub overflow_add-result : goal.overflow_add-result
overflow_add-result c =
    omega (arith, c.rough.ensures, c.requires.0.1, rough_small c.args.q c.args.h c.requires.1.0 c.requires.1.1)

pub returns : goal.returns
unfolding rough_step
returns c =
    let e = c.rough.ensures in
    let n = rough-number c.args.c c.args.q c.args.h c.requires.0 c.requires.1.0 c.requires.1.1 in
    (rw e refl, rw e n)
