-- The root of a number whose significand has its 53 digits: its own significand and exponent.
use mathlib.Core.Path.{◌≡◌, sym, ap, ◌∙◌, subst}
use mathlib.Core.Bool.{true, false, true≢false}
use Prim.Native.Nat.{ℕ, zero, suc, ◌+◌, ◌-◌, ◌*◌, ◌/◌, ◌%◌, ◌^◌, ◌≤◌, ◌<◌}
use native.Mathlib.Nat.{mul-div_cancel, mul_assoc, mul-pos, zero-mul, lt_irrefl}
use native.Mathlib.Omega.{arith}
use lib.Pow.{pow-add, pow_pos}
use lib.Ieee.{inf, nan, Float, fin, binary64, units, up, down}
use lib.Ieee.Exact.{HasValue}
use lib.Ieee.Fits.{down_pos}
use Rattle.root.specs.WholeRoot.{nearest_root}
use Rattle.root.specs.SquareRoot.{root_units, square_root}
use Rattle.laws.proofs.Powers.{size_shifted, four-pow}

-- ---- the root is that of the number of units squared

pub root_of-value : (x : Float) (m : ℕ) → 0 < m → HasValue x false m (2 ^ 2148) → square_root x ≡ root_units m
unfolding square_root
root_of-value nan m p v = elim v [ ]
root_of-value (inf _) m p v = elim v [ ]
root_of-value (fin true n e) m p v = absurd (true≢false v.0)
root_of-value (fin false zero e) m p v = absurd (lt_irrefl 0 (subst (λ (x : ℕ). 0 < x) (sym v.1 ∙ ap (λ (x : ℕ). x * 2 ^ 2148) (zero-mul (up e))) (mul-pos p (down_pos e))))
root_of-value (fin false (suc n) e) m p v = ap root_units (ap (λ (x : ℕ). x / down e) v.1 ∙ mul-div_cancel m (down_pos e))

-- ---- of t * 2 ^ y units squared

-- y is 2 * k and 52 or 53 more, where k digits are dropped
split : (y : ℕ) → 52 ≤ y → y ≡ 52 + y % 2 + ((y / 2 - 26) + (y / 2 - 26))
split y h = omega arith

dropped : (y : ℕ) → suc (53 + y) / 2 - 53 ≡ y / 2 - 26
dropped y = omega arith

-- the whole number under the root is the significand with 52 or 53 zeros behind it
pub radicand : (t y : ℕ) → 52 ≤ y → t * 2 ^ y ≡ t * 2 ^ (52 + y % 2) * (2 ^ (y / 2 - 26) * 2 ^ (y / 2 - 26))
radicand t y h =
    let k = y / 2 - 26 in
    ap (λ (x : ℕ). t * 2 ^ x) (split y h)
    ∙ ap (λ (x : ℕ). t * x) (pow-add 2 (52 + y % 2) (k + k) ∙ ap (λ (x : ℕ). 2 ^ (52 + y % 2) * x) (pow-add 2 k k))
    ∙ sym (mul_assoc t (2 ^ (52 + y % 2)) (2 ^ k * 2 ^ k))

cut : (t y : ℕ) → 52 ≤ y → t * 2 ^ y / 4 ^ (y / 2 - 26) ≡ t * 2 ^ (52 + y % 2)
cut t y h =
    let k = y / 2 - 26 in
    ap (λ (x : ℕ). t * 2 ^ y / x) (four-pow k) ∙ ap (λ (x : ℕ). x / (2 ^ k * 2 ^ k)) (radicand t y h) ∙ mul-div_cancel (t * 2 ^ (52 + y % 2)) (mul-pos (pow_pos k) (pow_pos k))

pub scaled_root : (t y : ℕ) → 2 ^ 52 ≤ t → t < 2 ^ 53 → 52 ≤ y
    → root_units (t * 2 ^ y) ≡ units binary64 false (nearest_root 53 (t * 2 ^ (52 + y % 2))) (y / 2 - 26)
unfolding root_units
scaled_root t y lo hi h =
    ap (λ (z : ℕ). units binary64 false (nearest_root 53 (t * 2 ^ y / 4 ^ (suc z / 2 - 53))) (suc z / 2 - 53)) (size_shifted 52 t y lo hi)
    ∙ ap (λ (k : ℕ). units binary64 false (nearest_root 53 (t * 2 ^ y / 4 ^ k)) k) (dropped y)
    ∙ ap (λ (n : ℕ). units binary64 false (nearest_root 53 n) (y / 2 - 26)) (cut t y h)
