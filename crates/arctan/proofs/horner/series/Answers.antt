-- `arctan::horner::series` meets its contract.
use Rattle.std.proofs.Common.{ℕ, ◌+◌, ap, ◌∙◌, arith}
use Rattle.arctan.specs.Rule.{last_step}
use Rattle.arctan.proofs.Steps.{high_small, series-is}
use Rattle.arctan.proofs.horner.series.Goals as goal

pub overflow_add-result : goal.overflow_add-result
overflow_add-result c =
    omega (arith, c.high.ensures, c.requires.0.f0, high_small c.fine_step-q-3.result c.args.h c.fine_step-q-3.ensures.1 c.requires.1)

pub returns : goal.returns
unfolding last_step
returns c =
    ap (λ (v : ℕ). c.args.r.a0 + v) c.high.ensures
    ∙ series-is
    c.args.r
    c.args.h
    c.rough_step-q.ensures.0
    c.rough_step-q-2.ensures.0
    c.rough_step-q-3.ensures.0
    c.rough_step-q-4.ensures.0
    c.rough_step-q-5.ensures.0
    c.fine_step-q.ensures.0
    c.fine_step-q-2.ensures.0
    c.fine_step-q-3.ensures.0
