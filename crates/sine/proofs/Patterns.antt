-- A number from its pattern: its digits moved up are its value at a power of two.
use Rattle.std.proofs.Common.{◌≡◌, ℕ, zero, suc, ◌+◌, ◌-◌, ◌*◌, ◌^◌, ◌<◌, ◌≤◌, false, T, ℤ, sym, refl, ap, ◌∙◌, subst, le_trans, lt_of_lt_of_le, mul-le-mul_right, mul_assoc, mul-le-mul, lt_of_not-le, zero-mul, mul_right_comm, not-le_of_lt, le_of_mul-le-mul_right, arith, lit<, lit≤, pow_pos, pow_mono, pow-add, shl_lt}
use native.Mathlib.Nat.{eq_of_mul-eq-mul_right}
use lib.Ieee.{Float, fin, binary64, up, down, fits, of_bits, to_bits}
use lib.Ieee.Bits.{of_bits-to_bits}
use lib.Ieee.Fits.{down_pos}
use Rattle.laws.specs.Fields.{field, digits_of}
use Rattle.laws.proofs.Fraction.{below_of_cross}
use Rattle.laws.proofs.Pattern.{Units, units_low, units-high}
use Rattle.laws.proofs.Fields.{field_below, digits_least, digits_most, pattern_parts}
use Rattle.laws.proofs.Positive.{pattern_of_finite}

-- of one number m * 2 ^ e that the format holds
module _ (m : ℕ) (e : ℤ) (fit : T (fits binary64 (fin false m e))) where
  abbrev b : ℕ
  b = to_bits binary64 (fin false m e)

  back : of_bits binary64 b ≡ fin false m e
  back = of_bits-to_bits binary64 (fin false m e) fit

  finite : field b < 2047
  finite = go m e fit
    where
      go : (m : ℕ) (e : ℤ) → T (fits binary64 (fin false m e)) → field (to_bits binary64 (fin false m e)) < 2047
      go zero e f =
          let h = field_below (fin false zero e) 0 0 (refl, ap (λ (n : ℕ). n * 2 ^ 1074) (zero-mul (up e)) ∙ zero-mul (2 ^ 1074) ∙ sym (zero-mul (down e))) (lit< tt) in
          small (to_bits binary64 (fin false zero e)) h
        where
          small : (n : ℕ) → n < 2 * 2 ^ 52 → field n < 2047
          small n h = omega arith
      go (suc n) e f = under (to_bits binary64 (fin false (suc n) e)) (pattern_of_finite n e f).1
        where
          under : (n : ℕ) → n < 0x7ff0_0000_0000_0000 → field n < 2047
          under n h = omega arith

  value : 1 ≤ field b → m * up e * 2 ^ 1074 ≡ digits_of b * 2 ^ (field b - 1) * down e
  value l =
      (subst (λ (x : Float). Units x false (digits_of b * 2 ^ (field b - 1))) back
      (units-high b (field b - 1) (digits_of b) (pattern_parts b l) (digits_least b) (digits_most b) (fewer (field b) finite l))).1
    where
      fewer : (f : ℕ) → f < 2047 → 1 ≤ f → f - 1 < 2046
      fewer f h l = omega arith

  -- its size bounds its field from above, and from below
  pub field-most : (k : ℕ) → 1 ≤ field b → m * up e < 2 ^ k * down e → field b < 1023 + k
  field-most k l h = lt_of_not-le (λ (g : 1023 + k ≤ field b).
      let p : 2 ^ (52 + (1022 + k)) ≤ digits_of b * 2 ^ (field b - 1) =
      subst (λ (n : ℕ). n ≤ digits_of b * 2 ^ (field b - 1)) (sym (pow-add 2 52 (1022 + k))) (mul-le-mul (digits_least b) (pow_mono {j = field b - 1} (above (field b) k g))) in
      let q : 2 ^ k * 2 ^ 1074 ≤ digits_of b * 2 ^ (field b - 1) = subst (λ (n : ℕ). n ≤ digits_of b * 2 ^ (field b - 1)) (ap (λ (n : ℕ). 2 ^ n) (together k) ∙ pow-add 2 k 1074) p in
      not-le_of_lt h (over (m * up e) (down e) (digits_of b * 2 ^ (field b - 1)) (2 ^ 1074) (2 ^ k) (pow_pos 1074) (value l) q))
    where
      above : (f k : ℕ) → 1023 + k ≤ f → 1022 + k ≤ f - 1
      above f k g = omega arith

      together : (k : ℕ) → 52 + (1022 + k) ≡ k + 1074
      together k = omega arith

      over : (x d a c n : ℕ) → 0 < c → x * c ≡ a * d → n * c ≤ a → n * d ≤ x
      over x d a c n C e q = le_of_mul-le-mul_right {k = c} (subst (λ (z : ℕ). n * d * c ≤ z) (sym e) (subst (λ (z : ℕ). z ≤ a * d) (mul_right_comm n c d) (mul-le-mul_right d q))) C

  pub field-least : 4 * down e ≤ m * up e → 1025 ≤ field b
  field-least h = le-of-not (field b) (λ (g : field b < 1025). not-le_of_lt (small (field b) refl g) h)
    where
      le-of-not : (f : ℕ) → (f < 1025 → ⊥) → 1025 ≤ f
      le-of-not f n = lt_of_not-le (λ (g : f ≤ 1024). n (omega arith))

      small : (f : ℕ) → f ≡ field b → field b < 1025 → m * up e < 4 * down e
      small zero i g =
          let v : m * up e * 2 ^ 1074 ≡ b * down e = (subst (λ (x : Float). Units x false b) back (units_low b (low b i))).1 in
          below_of_cross (m * up e) (down e) b (2 ^ 1074) 4 (pow_pos 1074) v (lt_of_lt_of_le (low b i) (lit≤ tt)) (down_pos e)
        where
          low : (n : ℕ) → 0 ≡ field n → n < 2 ^ 52
          low n i = omega arith
      small (suc f) i g =
          below_of_cross (m * up e) (down e) (digits_of b * 2 ^ (field b - 1)) (2 ^ 1074) 4 (pow_pos 1074) (value (some (field b) i))
          (lt_of_lt_of_le (shl_lt 53 (field b - 1) (digits_most b)) (le_trans (pow_mono {j = 1076} (within (field b) g)) (lit≤ tt))) (down_pos e)
        where
          some : (n : ℕ) → suc f ≡ n → 1 ≤ n
          some n i = omega arith

          within : (n : ℕ) → n < 1025 → 53 + (n - 1) ≤ 1076
          within n g = omega arith

  -- THE VALUE at 2 ^ j
  pub by_bits : (j low : ℕ) → low + j ≡ 1075 → 1 ≤ low → low ≤ field b → m * up e * 2 ^ j ≡ digits_of b * 2 ^ (field b - low) * down e
  by_bits j low s one l =
      let p = 2 ^ (1074 - j) in
      let k = field b - low in
      let d = digits_of b in
      let up' : 2 ^ j * p ≡ 2 ^ 1074 = sym (pow-add 2 j (1074 - j)) ∙ ap (λ (n : ℕ). 2 ^ n) (parts j low s one) in
      let high : 2 ^ k * p ≡ 2 ^ (field b - 1) = sym (pow-add 2 k (1074 - j)) ∙ ap (λ (n : ℕ). 2 ^ n) (rest (field b) j low s one l) in
      eq_of_mul-eq-mul_right p (pow_pos (1074 - j)) (m * up e * 2 ^ j) (d * 2 ^ k * down e)
      (mul_assoc (m * up e) (2 ^ j) p ∙ ap (λ (n : ℕ). m * up e * n) up' ∙ value (le_trans one l)
      ∙ ap (λ (n : ℕ). d * n * down e) (sym high) ∙ ap (λ (n : ℕ). n * down e) (sym (mul_assoc d (2 ^ k) p)) ∙ mul_right_comm (d * 2 ^ k) p (down e))
    where
      parts : (j low : ℕ) → low + j ≡ 1075 → 1 ≤ low → j + (1074 - j) ≡ 1074
      parts j low s one = omega arith

      rest : (f j low : ℕ) → low + j ≡ 1075 → 1 ≤ low → low ≤ f → f - low + (1074 - j) ≡ f - 1
      rest f j low s one l = omega arith
