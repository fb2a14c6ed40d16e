-- `sine::floats` meets its contract: what is in range stays as it is.
use Rattle.std.proofs.Common.{◌≡◌, ◌/◌, ◌^◌, true, eqb, sym, refl, ◌∙◌}
use borrow.Author.Tests.{not-false}
use Rattle.laws.proofs.Logic.{or_false_left, or_false_right}
use Rattle.sine.proofs.Sizes.{ranged_range, inside_ranged}
use Rattle.sine.proofs.floats.Goals as goal

pub float-requires : goal.float-requires
float-requires c =
    rw c.ranged.ensures (ranged_range c.args.r.sine)

pub float-requires-then-outside : goal.float-requires-then-outside
float-requires-then-outside c =
    rw c.ranged-then-outside.ensures (ranged_range c.args.r.cosine)

pub returns : goal.returns
returns c =
    let left = c.if-outside.false in
    let s = c.args.r.sine in
    let k = c.args.r.cosine in
    let s-in : eqb (s / 2 ^ 54) 1 ≡ true = not-false _ (sym c.outside.ensures ∙ or_false_left c.outside.result c.outside-2.result left) in
    let k-in : eqb (k / 2 ^ 54) 1 ≡ true = not-false _ (sym c.outside-2.ensures ∙ or_false_right c.outside.result c.outside-2.result left) in
    (rw (inside_ranged k k-in) c.float-3.ensures, rw (inside_ranged s s-in, c.float-2.ensures) refl)
