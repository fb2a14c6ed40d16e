-- `arctan::horner::fine_step` meets its contract.
use Rattle.std.proofs.Common.{refl, arith}
use Rattle.arctan.specs.Rule.{fine_step}
use Rattle.arctan.proofs.Steps.{high_small, fine_number}
use Rattle.arctan.proofs.horner.fine_step.Goals as goal

pub overflow_add-result : goal.overflow_add-result
overflow_add-result c =
    omega (arith, c.high.ensures, c.requires.0.1, high_small c.args.q c.args.h c.requires.1.0 c.requires.1.1)

pub returns : goal.returns
unfolding fine_step
returns c =
    let e = c.high.ensures in
    let n = fine_number c.args.c c.args.q c.args.h c.requires.0 c.requires.1.0 c.requires.1.1 in
    (rw e refl, rw e n)
