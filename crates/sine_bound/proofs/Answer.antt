-- The float that the rule makes of its number: a whole number of 2 ^ -53, at most 1 in size.
use mathlib.Core.Path.{◌≡◌, refl, sym, ◌∙◌, ap}
use mathlib.Core.Logic.{◌⊎◌, inl, inr}
use mathlib.Core.Bool.{Bool, true, false, cond}
use Prim.Native.Nat.{ℕ, suc, ◌-◌, ◌*◌, ◌≤◌, ◌<◌, ◌^◌}
use native.Mathlib.Nat.{mul_assoc, mul-pos, eq-or-lt_of_le, lt_of_lt_of_le}
use native.Mathlib.Omega.{arith}
use lib.IntN.{pos, negsuc, sub_ℕ}
use lib.Dec.{ltb, lit≤, lit<}
use lib.Pow.{shl_lt}
use lib.Count.{count_trailing_zeros}
use borrow.Author.Tests.{ltb-true}
use lib.Ieee.{Float, nan, inf, fin, binary64, up, down, round, odd, of_bits, of_fields, of_int, neg, mul, unlike}
use lib.Ieee.Fits.{down_pos}
use lib.Ieee.Exact.{HasValue, round_exact}
use lib.Ieee.Back.{round_whole}
use lib.Ieee.Scale.{round_same}
use Rattle.sine.specs.Rule.{rounded, places, floated, float}
use Rattle.sine.proofs.Sizes.{ranged_range}

-- the size of k / 2 ^ 53 - 3, at 2 ^ 53; it is below 0 where k is below 3 * 2 ^ 53
unfoldable pub magnitude : ℕ → ℕ
magnitude k = cond (ltb k (3 * 2 ^ 53)) (3 * 2 ^ 53 - k) (k - 3 * 2 ^ 53)

pub magnitude_le : (t : ℕ) → magnitude (places t) ≤ 2 ^ 53
unfolding magnitude places
magnitude_le t = go (ltb (places t) (3 * 2 ^ 53)) (ranged_range (rounded t))
  where
    go : (b : Bool) → (2 ^ 54 ≤ places t) × (places t ≤ 2 ^ 55) → cond b (3 * 2 ^ 53 - places t) (places t - 3 * 2 ^ 53) ≤ 2 ^ 53
    go true r = omega arith
    go false r = omega arith

-- k / 2 ^ 53 is exact
exact : (s : Bool) (k : ℕ) → k ≤ 2 ^ 53 → HasValue (round binary64 s k (2 ^ 53)) s k (2 ^ 53)
exact s k h = go (eq-or-lt_of_le h)
  where
    go : (k ≡ 2 ^ 53) ⊎ (k < 2 ^ 53) → HasValue (round binary64 s k (2 ^ 53)) s k (2 ^ 53)
    go (inl e) =
        rw e (round_exact binary64 s (2 ^ 53) (2 ^ 53) 1 1074 (lit< tt) (lit< tt) (lit< tt) refl)
    go (inr l) =
        round_exact binary64 s k (2 ^ 53) k 1021 (lit< tt) l (lt_of_lt_of_le (shl_lt 53 1021 l) (lit≤ tt))
        (sym (mul_assoc k (2 ^ 1021) (2 ^ 53)))

-- a whole number times 2 ^ -53
times-unit : (x : Float) (t s : Bool) (k : ℕ) → k ≤ 2 ^ 53 → HasValue x t k 1 → HasValue (mul binary64 x (fin s 1 (negsuc 52))) (unlike t s) k (2 ^ 53)
unfolding mul
times-unit nan t s k h v = absurd v
times-unit (inf b) t s k h v = absurd v
times-unit (fin b m e) t s k h v =
    rw (
      v.0,
      round_same binary64 (unlike t s) (m * up e * 1) (down e * 2 ^ 53) k (2 ^ 53) (mul-pos (down_pos e) (lit< tt)) (lit< tt)
          (ap (λ (z : ℕ). z * 2 ^ 53) v.1 ∙ mul_assoc k (down e) (2 ^ 53)),
    )
    (exact (unlike t s) k h)

-- k - 3 * 2 ^ 53 as a float
difference_value : (k : ℕ) → magnitude k ≤ 2 ^ 53 → HasValue (of_int binary64 (sub_ℕ k (3 * 2 ^ 53))) (ltb k (3 * 2 ^ 53)) (magnitude k) 1
unfolding magnitude of_int
difference_value k h = go (ltb k (3 * 2 ^ 53)) refl h
  where
    go : (b : Bool) → ltb k (3 * 2 ^ 53) ≡ b → cond b (3 * 2 ^ 53 - k) (k - 3 * 2 ^ 53) ≤ 2 ^ 53 →
        HasValue (of_int binary64 (cond b (negsuc (3 * 2 ^ 53 - suc k)) (pos (k - 3 * 2 ^ 53)))) b (cond b (3 * 2 ^ 53 - k) (k - 3 * 2 ^ 53)) 1
    go true e i =
        let n : suc (3 * 2 ^ 53 - suc k) ≡ 3 * 2 ^ 53 - k = omega (arith, ltb-true k (3 * 2 ^ 53) e) in
        rw n (round_whole binary64 true (3 * 2 ^ 53 - k) i)
    go false e i = round_whole binary64 false (k - 3 * 2 ^ 53) i

-- THE ANSWER is (k - 3 * 2 ^ 53) / 2 ^ 53, where k is `places t`, negated where `flip`
pub float_value : (t : ℕ) (flip : Bool) → HasValue (float t flip) (unlike (ltb (places t) (3 * 2 ^ 53)) flip) (magnitude (places t)) (2 ^ 53)
unfolding float floated of_bits of_fields odd count_trailing_zeros neg
float_value t true = times-unit _ (ltb (places t) (3 * 2 ^ 53)) true (magnitude (places t)) (magnitude_le t) (difference_value (places t) (magnitude_le t))
float_value t false = times-unit _ (ltb (places t) (3 * 2 ^ 53)) false (magnitude (places t)) (magnitude_le t) (difference_value (places t) (magnitude_le t))
