-- The sign: x has the remainder's sign, and the rule's float changes its own with it.
use mathlib.Core.Path.{◌≡◌, refl, sym, ap}
use mathlib.Core.Bool.{Bool, true, false, not}
use Prim.Native.Nat.{ℕ, ◌+◌, ◌*◌, ◌%◌, ◌≤◌, ◌^◌}
use native.Mathlib.Nat.{zero-mul, mul-pos, zero-mod}
use native.Mathlib.Omega.{arith}
use lib.IntN.{ℤ}
use lib.Dec.{ltb, lit<}
use borrow.Author.Tests.{lt-ltb, le-ltb, ltb-true, ltb-false}
use lib.Count.{count_trailing_zeros}
use lib.Ieee.{Float, fin, binary64, up, down, round, units, odd, size, span, climb, of_bits, of_fields, neg, mul, rem, lt, to_unsigned}
use lib.Ieee.Fits.{down_pos}
use lib.Ieee.Scale.{round_same}
use Rattle.fixed.specs.Size.{size_of}
use Rattle.sine.specs.Angle.{tau}
use Rattle.sine.specs.Angle as angle
use Rattle.sine.specs.Rule.{places, float}
use Rattle.sine.proofs.Signs.{floated_odd}

-- where x is no zero, `x < 0.0` is its sign, and a zero has the angle 0
zero-angle : (m : ℕ) (e : ℤ) → m * up e ≡ 0 → angle.units (rem binary64 (fin true m e) tau) ≡ 0
unfolding rem tau angle.units size_of lt neg mul to_unsigned of_bits of_fields odd count_trailing_zeros round units size span climb
zero-angle m e h =
    let p : round binary64 true (m * up e * 2 ^ 47 % (884279719003555 * down e)) (down e * 2 ^ 47) ≡ round binary64 true 0 1 =
    rw (h, zero-mod (884279719003555 * down e)) (round_same binary64 true 0 (down e * 2 ^ 47) 0 1 (mul-pos (down_pos e) (lit< tt)) (lit< tt) (sym (zero-mul (down e * 2 ^ 47)))) in
    ap (λ (r : Float). angle.units r) p

pub sign_is : (s : Bool) (m : ℕ) (e : ℤ) → 2 ^ 35 ≤ angle.units (rem binary64 (fin s m e) tau) → lt (fin s m e) (of_bits binary64 0) ≡ s
unfolding lt of_bits of_fields odd
sign_is false m e h = le-ltb (m * up e * 1) (0 * down e) (omega (arith, zero-mul (down e)))
sign_is true m e h = go (ltb 0 (m * up e)) refl
  where
    go : (b : Bool) → ltb 0 (m * up e) ≡ b → ltb 0 (m * up e * 1 + 0 * down e) ≡ true
    go true i = lt-ltb 0 (m * up e * 1 + 0 * down e) (omega (arith, ltb-true 0 (m * up e) i))
    go false i =
        let z : m * up e ≡ 0 = omega (arith, ltb-false 0 (m * up e) i) in
        let n : ⊥ = omega (arith, h, zero-angle m e z) in absurd n

pub float_odd : (t : ℕ) (b : Bool) → float t (not b) ≡ neg (float t b)
unfolding float
float_odd t b = floated_odd (places t) b
