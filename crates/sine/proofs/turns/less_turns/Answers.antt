use Rattle.std.proofs.Common.{◌≡◌, ℕ, ◌+◌, ◌-◌, ◌*◌, ◌/◌, ◌%◌, ◌^◌, ◌<◌, ◌≤◌, refl, sym, ap, ◌∙◌, lt_of_lt_of_le, mod-eq_of_lt, mul_assoc, arith, pow_mono, pow-add, shl_lt}
use Rattle.std.proofs.lemmas.Nat.{mul-mod_first}
use Rattle.sine.proofs.turns.less_turns.Goals as goal

-- k places more
more : (d r i k j : ℕ) → r % 7074237752028440 ≡ d * 2 ^ i % 7074237752028440 → i + k ≡ j → r * 2 ^ k % 7074237752028440 ≡ d * 2 ^ j % 7074237752028440
more d r i k j h e =
    let t : ℕ = 7074237752028440 in
    let joined : d * 2 ^ i * 2 ^ k ≡ d * 2 ^ j = mul_assoc d (2 ^ i) (2 ^ k) ∙ ap (λ (z : ℕ). d * z) (sym (pow-add 2 i k) ∙ ap (λ (z : ℕ). 2 ^ z) e) in
    sym (mul-mod_first r (2 ^ k) t) ∙ ap (λ (z : ℕ). z * 2 ^ k % t) h ∙ mul-mod_first (d * 2 ^ i) (2 ^ k) t ∙ ap (λ (z : ℕ). z % t) joined

pub loop-preserved : goal.loop-preserved
loop-preserved c =
    let r = c.loop.r in
    let i = c.loop.counter in
    let h = c.loop.invariant in
    let small : r * 1024 % 2 ^ 64 ≡ r * 1024 = mod-eq_of_lt (omega arith) in
    rw small (omega arith, omega (arith, more c.args.digits r (10 * i) 10 (10 * (i + 1)) h.1 (omega arith)))

-- ten places and fewer stay in a word
within : (r k : ℕ) → r < 2 ^ 53 → k ≤ 10 → r * 2 ^ k % 2 ^ 64 ≡ r * 2 ^ k
within r k h l = mod-eq_of_lt (lt_of_lt_of_le (shl_lt 53 k h) (pow_mono {i = 53 + k} {j = 64} (omega arith)))

pub returns-then-places-le10 : goal.returns-then-places-le10
returns-then-places-le10 c = rw (within c.args.digits c.args.places (omega arith) (omega arith)) refl

pub returns : goal.returns
returns c =
    let r = c.loop.r in
    let p = c.args.places in
    let i = c.loop.counter in
    let h = c.loop.invariant in
    let last : i ≡ (p - 1) / 10 = omega (arith, c.loop.auto.counter-end, c.loop-test.false) in
    let left = p - 10 * ((p - 1) / 10) in
    let few : left ≤ 10 = omega (arith, c.if-places-le10.false) in
    let whole : 10 * i + left ≡ p = omega (arith, last, c.if-places-le10.false) in
    rw (within r left h.0 few) (more c.args.digits r (10 * i) left p h.1 whole)
