-- A whole number n at 2 ^ 61 as a binary64 number: rounded, then times 2 ^ -61, it is within 16 * 2 ^ -53 of n / 2 ^ 61, for n up to 15 / 4.
use mathlib.Core.Path.{◌≡◌, refl, sym, ◌∙◌, ap, subst}
use mathlib.Core.Bool.{true, false, true≢false}
use Prim.Native.Nat.{ℕ, ◌+◌, ◌*◌, ◌≤◌, ◌<◌, ◌^◌}
use native.Mathlib.Nat.{add-mul, mul-one, mul_assoc, mul_comm, mul_left_comm, mul-pos, mul-le-mul_right, le_of_mul-le-mul_right, le_trans, lt_of_le_of_lt}
use native.Mathlib.Omega.{arith}
use lib.Count.{count_trailing_zeros}
use lib.Dec.{lit<, lit≤}
use lib.IntN.{pos, negsuc}
use lib.Ieee.{Float, nan, inf, fin, binary64, up, down, of_bits, of_fields, odd, round, of_int, mul}
use lib.Ieee.Fits.{round_is, down_pos}
use lib.Ieee.Exact.{HasValue, units_val}
use lib.Ieee.Order.{drop, kept}
use Rattle.laws.specs.Units.{tick, one}
use Rattle.laws.proofs.Units.{one_is, round-off}
use Rattle.laws.proofs.Grid.{grid_off}
use Rattle.arctan.specs.Rule.{float_of}
use Rattle.arctan.proofs.WholePart.{part}

-- 2 ^ -61 in units
unfoldable pub grain : ℕ
unfolding part
grain = 2 * part

one_grain : one ≡ 2305843009213693952 * grain
unfolding grain part tick
one_grain = refl

pub tick_grain : tick ≡ 256 * grain
unfolding grain part tick
tick_grain = refl

-- ---- n rounded: what it loses, in units, is at most 2 ^ 1085
unfoldable loss : ℕ
loss = 2 ^ 1085

loss_is : loss ≡ 2305843009213693952 * (8 * tick)
unfolding loss tick
loss_is = refl

record Whole (n : ℕ) : Type 0 where
  g : ℕ
  value : HasValue (of_int binary64 (pos n)) false g one
  above : g ≤ n * one + loss
  below : n * one ≤ g + loss

whole : (n : ℕ) → n ≤ 8646911284551352320 → Whole n
unfolding of_int loss
whole n h =
    let N = n * 2 ^ 1074 in
    let e : n * one ≡ N = ap (λ (z : ℕ). n * z) one_is in
    let h' : N ≤ 2 ^ (53 + 1084) * 1 = le_trans (mul-le-mul_right (2 ^ 1074) h) (lit≤ tt) in
    let o = grid_off N 1 1084 (lit< tt) h' in
    let g = kept 53 N 1 * 2 ^ drop 53 N 1 in
    let o₁ : g ≤ N + 2 ^ 1085 = rw (mul-one g, mul-one (2 ^ 1085)) at o.0 in
    let o₂ : N ≤ g + 2 ^ 1085 = rw (mul-one g, mul-one (2 ^ 1085)) at o.1 in
    let fine : g < 2 ^ 2098 = lt_of_le_of_lt (most g N (2 ^ 1137) (2 ^ 1085) o₁ (rw (mul-one (2 ^ (53 + 1084))) at h')) (lit< tt) in
    let v : HasValue (round binary64 false n 1) false g (2 ^ 1074) =
    subst (λ (z : Float). HasValue z false g (2 ^ 1074)) (sym (round_is binary64 false n 1)) (units_val binary64 false (kept 53 N 1) (drop 53 N 1) fine) in
    record {
      g = g;
      value = subst (λ (z : ℕ). HasValue (round binary64 false n 1) false g z) (sym one_is) v;
      above = subst (λ (z : ℕ). g ≤ z + 2 ^ 1085) (sym e) o₁;
      below = subst (λ (z : ℕ). z ≤ g + 2 ^ 1085) (sym e) o₂;
    }
  where
    most : (g n a k : ℕ) → g ≤ n + k → n ≤ a → g ≤ a + k
    most g n a k h i = omega arith

-- ---- and times 2 ^ -61
scale_is : of_bits binary64 0x3c20000000000000 ≡ fin false 1 (negsuc 60)
unfolding of_bits of_fields odd count_trailing_zeros
scale_is = refl

record Scaled (x : Float) (g : ℕ) : Type 0 where
  v : ℕ
  value : HasValue (mul binary64 x (of_bits binary64 0x3c20000000000000)) false v one
  above : v * 2305843009213693952 ≤ g + 8 * tick * 2305843009213693952
  below : g ≤ v * 2305843009213693952 + 8 * tick * 2305843009213693952

scaled : (x : Float) (g : ℕ) → HasValue x false g one → g ≤ 4 * one * 2305843009213693952 → Scaled x g
unfolding mul
scaled nan g v h = absurd v
scaled (inf s) g v h = absurd v
scaled (fin true m e) g v h = absurd (true≢false v.0)
scaled (fin false m e) g v h =
    let d = down e in
    let k : ℕ = 2305843009213693952 in
    let a = m * up e * 1 in
    let a-is : a * one ≡ g * d = ap (λ (z : ℕ). z * one) (mul-one (m * up e)) ∙ v.1 in
    let sw : (x : ℕ) → x * (d * k) ≡ x * k * d = λ x. ap (λ (z : ℕ). x * z) (mul_comm d k) ∙ sym (mul_assoc x k d) in
    let o =
    round-off false a (d * k) (mul-pos (down_pos e) (lit< tt))
    (subst (λ (z : ℕ). z ≤ 4 * one * (d * k)) (sym a-is) (subst (λ (z : ℕ). g * d ≤ z) (sym (sw (4 * one))) (mul-le-mul_right d h))) in
    record {
      v = o.g;
      value = rw scale_is o.value;
      above =
          le_of_mul-le-mul_right
          (sides (sw o.g) (ap (λ (z : ℕ). z + 8 * tick * (d * k)) a-is ∙ (ap (λ (z : ℕ). g * d + z) (sw (8 * tick)) ∙ sym (add-mul g (8 * tick * k) d))) o.above) (down_pos e);
      below =
          le_of_mul-le-mul_right
          (sides a-is (ap (λ (z : ℕ). z + 8 * tick * (d * k)) (sw o.g) ∙ (ap (λ (z : ℕ). o.g * k * d + z) (sw (8 * tick)) ∙ sym (add-mul (o.g * k) (8 * tick * k) d))) o.below) (down_pos e);
    }
  where
    sides : {x y z w : ℕ} → x ≡ z → y ≡ w → x ≤ y → z ≤ w
    sides e f h = omega arith

-- ---- the two together
pub record Converted (n : ℕ) : Type 0 where
  pub units : ℕ
  pub value : HasValue (float_of n) false units one
  pub above : units ≤ n * grain + 16 * tick
  pub below : n * grain ≤ units + 16 * tick

both : (n g v o r t l : ℕ) → o ≡ 2305843009213693952 * r → l ≡ 2305843009213693952 * (8 * t) → g ≤ n * o + l → n * o ≤ g + l →
    v * 2305843009213693952 ≤ g + 8 * t * 2305843009213693952 → g ≤ v * 2305843009213693952 + 8 * t * 2305843009213693952 →
    (v ≤ n * r + 16 * t) × (n * r ≤ v + 16 * t)
both n g v o r t l oe le a b c d =
    let e : n * o ≡ 2305843009213693952 * (n * r) = ap (λ (z : ℕ). n * z) oe ∙ mul_left_comm n 2305843009213693952 r in
    (omega arith, omega arith)

-- 15 / 4 and what was lost are below 4
room : (n g o t l : ℕ) → n ≤ 8646911284551352320 → l ≡ 2305843009213693952 * (8 * t) → o ≡ 9007199254740992 * t → g ≤ n * o + l → g ≤ 4 * o * 2305843009213693952
room n g o t l h le oe a =
    let i : n * o ≤ 8646911284551352320 * o = mul-le-mul_right o h in
    omega arith

pub converted : (n : ℕ) → n ≤ 8646911284551352320 → Converted n
unfolding float_of
converted n h =
    let w = whole n h in
    let s = scaled (of_int binary64 (pos n)) w.g w.value (room n w.g one tick loss h loss_is refl w.above) in
    let b = both n w.g s.v one grain tick loss one_grain loss_is w.above w.below s.above s.below in
    record { units = s.v; value = s.value; above = b.0; below = b.1 }
