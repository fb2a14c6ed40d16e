-- The remainder without the division of floats: below TAU it is x, and from TAU on a remainder of whole numbers of 2 ^ -50, scaled back.
use Rattle.std.proofs.Common.{◌≡◌, ℕ, ◌+◌, ◌-◌, ◌*◌, ◌%◌, ◌^◌, ◌<◌, ◌≤◌, Bool, true, false, T, zero as nought, suc, not-le_of_lt, ℤ, pos, negsuc, sym, refl, true≢false, mod-eq_of_lt, mul_assoc, mul-pos, arith, lit<, lit≤, ltb-true, ltb-false, lt-ltb, le-ltb}
use mathlib.Core.Bool.{false≢true}
use lib.Count.{count_trailing_zeros}
use lib.Ieee.{Float, nan, inf, fin, binary64, up, down, round, odd, of_bits, of_fields, mul, rem, lt, to_bits, fits, of_int}
use lib.Ieee.Fits.{down_pos}
use lib.Ieee.Exact.{HasValue}
use lib.Ieee.Back.{round_whole}
use lib.Ieee.Scale.{round_same}
use Rattle.laws.specs.Fields.{field, digits_of}
use Rattle.laws.specs.Size.{abs}
use Rattle.laws.specs.Literal.{zero}
use Rattle.laws.proofs.Positive.{pattern_of_finite}
use Rattle.laws.proofs.Same.{round-value}
use Rattle.sine.specs.Angle.{tau}
use Rattle.sine.proofs.Patterns.{field-least, by_bits}
use Rattle.sine.proofs.Shortcuts.{same_remainder}

-- ---- below TAU
near-fin : (s : Bool) (m : ℕ) (e : ℤ) → T (fits binary64 (fin s m e)) → m * up e * 2 ^ 47 < 884279719003555 * down e → rem binary64 (fin s m e) tau ≡ fin s m e
unfolding rem tau of_bits of_fields odd count_trailing_zeros
near-fin s m e f h =
    rw (mod-eq_of_lt h)
    (round-value binary64 (fin s m e) s (m * up e * 2 ^ 47) (down e * 2 ^ 47) (mul-pos (down_pos e) (lit< tt)) f (refl, omega arith))

pub remainder_near : (x : Float) → T (fits binary64 x) → lt (abs x) tau ≡ true → x ≡ rem binary64 x tau
unfolding abs tau lt of_bits of_fields odd count_trailing_zeros
remainder_near nan f t = absurd (false≢true t)
remainder_near (inf s) f t = absurd (false≢true t)
remainder_near (fin s m e) f t =
    sym (near-fin s m e f (omega (arith, ltb-true (m * up e * down (negsuc 46)) (884279719003555 * up (negsuc 46) * down e) t)))

-- ---- from TAU on
far-fin : (s : Bool) (m : ℕ) (e : ℤ) (k : ℕ) → m * up e * 2 ^ 50 ≡ k * down e → rem binary64 (fin s m e) tau ≡ round binary64 s (k % 7074237752028440) (2 ^ 50)
unfolding rem tau of_bits of_fields odd count_trailing_zeros
far-fin s m e k h =
    let d = down e in
    let q = k % 7074237752028440 in
    let n = m * up e * 2 ^ 47 % (884279719003555 * d) in
    let g : q * d ≡ n * 8 = same_remainder (m * up e * 2 ^ 47) d k (down_pos e) (omega (arith, h)) in
    round_same binary64 s n (d * 2 ^ 47) q (2 ^ 50) (mul-pos (down_pos e) (lit< tt)) (lit< tt) (omega (arith, g, mul_assoc q d (2 ^ 47)))

-- a number from TAU on is below 0 where its sign says so
sign-tells : (s : Bool) (m : ℕ) (e : ℤ) → 0 < m * up e → lt (fin s m e) zero ≡ s
unfolding lt of_bits of_fields odd count_trailing_zeros
sign-tells true m e h = lt-ltb 0 (m * up e * 1 + 0 * 1 * down e) (omega (arith, h))
sign-tells false m e h = le-ltb (m * up e * 1) (0 * 1 * down e) (omega arith)

nan-high : to_bits binary64 nan < 0x7ff0_0000_0000_0000 → ⊥
unfolding to_bits
nan-high h = omega (arith, h)

infinity-high : to_bits binary64 (inf false) < 0x7ff0_0000_0000_0000 → ⊥
unfolding to_bits
infinity-high h = omega (arith, h)

pub record Far (x : Float) (bits : ℕ) : Type 0 where
  pub field_from : 1025 ≤ field bits
  pub is : rem binary64 x tau ≡ round binary64 (lt x zero) (digits_of bits * 2 ^ (field bits - 1025) % 7074237752028440) (2 ^ 50)

far : (s : Bool) (m : ℕ) (e : ℤ) → T (fits binary64 (fin false m e)) → 884279719003555 * down e ≤ m * up e * 2 ^ 47 → Far (fin s m e) (to_bits binary64 (fin false m e))
far s m e f from =
    let b = to_bits binary64 (fin false m e) in
    let k = digits_of b * 2 ^ (field b - 1025) in
    let l : 1025 ≤ field b = field-least m e f (omega (arith, from)) in
    let v : m * up e * 2 ^ 50 ≡ k * down e = by_bits m e f 50 1025 refl (lit≤ tt) l in
    record { field_from = l; is = rw (sign-tells s m e (omega (arith, from, down_pos e))) (far-fin s m e k v) }

pub remainder_far : (x : Float) → T (fits binary64 (abs x)) → lt (abs x) tau ≡ false → to_bits binary64 (abs x) < 0x7ff0_0000_0000_0000 → Far x (to_bits binary64 (abs x))
unfolding abs tau lt of_bits of_fields odd count_trailing_zeros
remainder_far nan f t h = absurd (nan-high h)
remainder_far (inf s) f t h = absurd (infinity-high h)
remainder_far (fin s m e) f t h = far s m e f (omega (arith, ltb-false (m * up e * down (negsuc 46)) (884279719003555 * up (negsuc 46) * down e) t))

-- past every finite number
pub remainder_unbounded : (x : Float) → T (fits binary64 (abs x)) → lt (abs x) tau ≡ false → 0x7ff0_0000_0000_0000 ≤ to_bits binary64 (abs x) → nan ≡ rem binary64 x tau
unfolding abs tau lt rem of_bits of_fields odd count_trailing_zeros
remainder_unbounded nan f t h = refl
remainder_unbounded (inf s) f t h = refl
remainder_unbounded (fin s nought e) f t h =
    absurd (omega (arith, ltb-false (0 * up e * down (negsuc 46)) (884279719003555 * up (negsuc 46) * down e) t, down_pos e))
remainder_unbounded (fin s (suc n) e) f t h = absurd (not-le_of_lt (pattern_of_finite n e f).1 h)

-- ---- a remainder in units of 2 ^ -50, scaled back
scaled : (o : Float) (r : ℕ) → HasValue o false r 1 → mul binary64 o (fin false 1 (negsuc 49)) ≡ round binary64 false r (2 ^ 50)
unfolding mul
scaled nan r v = absurd v
scaled (inf s) r v = absurd v
scaled (fin true m e) r v = absurd (true≢false v.0)
scaled (fin false m e) r v =
    round_same binary64 false (m * up e * (1 * 1)) (down e * 2 ^ 50) r (2 ^ 50) (mul-pos (down_pos e) (lit< tt)) (lit< tt) (omega (arith, v.1))

pub scaled_back : (r : ℕ) → r ≤ 2 ^ 53 → mul binary64 (of_int binary64 (pos r)) (fin false 1 (negsuc 49)) ≡ round binary64 false r (2 ^ 50)
unfolding of_int
scaled_back r h = scaled (round binary64 false r 1) r (round_whole binary64 false r h)
