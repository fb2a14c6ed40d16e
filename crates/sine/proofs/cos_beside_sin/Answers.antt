-- `sine::cos_beside_sin` meets its contract.
use Rattle.std.proofs.Common.{◌≡◌, ℕ, zero, suc, List, [], ◌∷◌, set, refl, ap, ◌∙◌, arith}
use lib.Ieee.{Float}
use Rattle.sine.proofs.Cases.{sine-turned, sine_remainder, cosine-turned, cosine-one}
use Rattle.sine.proofs.cos_beside_sin.Goals as goal

-- of two stores to one place the second is what stands there
set_twice : (l : List Float) (i : ℕ) (a b : Float) → set (set l i a) i b ≡ set l i b
set_twice [] i a b = refl
set_twice (x ∷ l) zero a b = refl
set_twice (x ∷ l) (suc i) a b = ap (λ m. x ∷ m) (set_twice l i a b)

pub returns-then-n-lt-COSINE_SMALL : goal.returns-then-n-lt-COSINE_SMALL
returns-then-n-lt-COSINE_SMALL c =
    let x = c.args.x in
    let n = c.angle-n.result in
    let is = c.angle-n.ensures.0 in
    let r = c.remainder-r.ensures in
    (c.pick.ensures ∙ rw r (cosine-one x n is (omega arith)), rw (r ∙ sine_remainder x n is (omega arith)) refl)

pub returns-then-n-lt-SINE_SMALL : goal.returns-then-n-lt-SINE_SMALL
returns-then-n-lt-SINE_SMALL c =
    let x = c.args.x in
    let n = c.angle-n.result in
    let is = c.angle-n.ensures.0 in
    let both = c.turned-cos.ensures in (
      both.0 ∙ cosine-turned x n is (omega arith),
      rw (both.1, set_twice _ 2 _ c.remainder.result, c.remainder.ensures ∙ sine_remainder x n is (omega arith)) refl,
    )

pub returns : goal.returns
returns c =
    let x = c.args.x in
    let n = c.angle-n.result in
    let is = c.angle-n.ensures.0 in
    let both = c.turned-cos.ensures in
    (both.0 ∙ cosine-turned x n is (omega arith), both.1 ∙ rw (sine-turned x n is (omega arith)) refl)
