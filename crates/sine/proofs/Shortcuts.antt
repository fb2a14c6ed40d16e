-- Two ways to the remainder without the division of floats: below TAU it is x, and below 8192 a remainder of whole numbers.
use Rattle.std.proofs.Common.{◌≡◌, ℕ, suc, ◌+◌, ◌-◌, ◌*◌, ◌/◌, ◌%◌, ◌^◌, ◌<◌, ◌≤◌, Bool, true, false, T, ℤ, pos, negsuc, sym, refl, ap, ◌∙◌, subst, true≢false, le_trans, lt_of_lt_of_le}
use Rattle.std.proofs.Common.{le_of_lt, mod-lt, mod-eq_of_lt, mul_assoc, mul_comm, add-mul, lt_of_mul-lt-mul_right, mul-pos, lt_of_not-le, div-add-mod', zero-mul, mul-one, mul_right_comm}
use Rattle.std.proofs.Common.{not-le_of_lt, le_of_mul-le-mul_right, mul-div_cancel, mul_left_comm, arith, lit<, lit≤, pow_mono, pow-add, shl_lt, ltb-false, ltb-true}
use mathlib.Core.Bool.{false≢true}
use lib.Count.{count_trailing_zeros}
use lib.Ieee.{Float, is_nan, nan, inf, fin, binary64, up, down, round, odd, of_bits, of_fields, neg, mul, rem, lt, to_bits, fits}
use lib.Ieee.Fits.{down_pos}
use lib.Ieee.Exact.{HasValue, round_exact}
use lib.Ieee.Scale.{round_same}
use lib.Ieee.Nearest.{div_same}
use Rattle.laws.specs.Fields.{field, digits_of}
use Rattle.laws.specs.Size.{abs}
use Rattle.laws.proofs.Held.{fits_num, fits_den}
use Rattle.laws.proofs.Scaled.{exact_times}
use Rattle.laws.proofs.Truncation.{MayCut}
use Rattle.fixed.specs.Size.{size_of}
use Rattle.fixed.proofs.Sizes.{by_sign}
use Rattle.sine.specs.Angle.{tau}
use Rattle.sine.specs.Angle as angle
use Rattle.sine.proofs.Patterns.{field-most, field-least, by_bits}
use Rattle.sine.proofs.Remainders.{Remainder, remainder, units_floor, units_may_cut, units-abs}

-- the whole part of a remainder whose value a / c is known
value-units : (s : Bool) (r : Float) → Remainder s r → (a c : ℕ) → 0 < c → HasValue r s a c → angle.units r ≡ a * 2 ^ 61 / c
value-units s r w a c C v =
    let u : HasValue (fin s w.m w.e) s a c = subst (λ (y : Float). HasValue y s a c) w.is v in
    let x = w.m * up w.e in
    ap (λ (y : Float). angle.units y) w.is
    ∙ units_floor s w.m w.e w.fit w.small
    ∙ div_same (x * 2 ^ 61) (down w.e) (a * 2 ^ 61) c (down_pos w.e) C
    (mul_right_comm x (2 ^ 61) c ∙ ap (λ (z : ℕ). z * 2 ^ 61) u.1 ∙ mul_right_comm a (down w.e) (2 ^ 61))

-- a size below a bound n * 2 ^ b
size_below : (s : Bool) (m : ℕ) (e : ℤ) (n : ℕ) (b : ℤ) → lt (size_of (fin s m e)) (fin false n b) ≡ true → 0 < n * up b → m * up e * down b < n * up b * down e
unfolding lt
size_below s m e n b t p = by_sign s (λ (y : Float). lt y (fin false n b) ≡ true → m * up e * down b < n * up b * down e) m e
    (λ t. ltb-true (m * up e * down b) (n * up b * down e) t)
    (λ z t. rw (z, zero-mul (down b)) (mul-pos p (down_pos e)))
    t

-- BELOW TAU the remainder is x
below_tau : (s : Bool) (m : ℕ) (e : ℤ) → T (fits binary64 (fin s m e)) → m * up e * 2 ^ 47 < 884279719003555 * down e → angle.units (rem binary64 (fin s m e) tau) ≡ angle.units (fin s m e)
unfolding rem tau of_bits of_fields odd count_trailing_zeros
below_tau s m e fit h =
    let x = m * up e in
    let d = down e in
    let hm = fits_num binary64 s m e fit in
    let hd = fits_den binary64 s m e fit in
    let d-pos : 0 < d * 1 = mul-pos (down_pos e) (lit< tt) in
    let p : round binary64 s (x * 2 ^ 47 % (884279719003555 * d)) (d * 2 ^ 47) ≡ round binary64 s (x * 2 ^ 0) (d * 1) =
    rw (mod-eq_of_lt h)
    (round_same binary64 s (x * 2 ^ 47) (d * 2 ^ 47) (x * 2 ^ 0) (d * 1) (mul-pos (down_pos e) (lit< tt)) d-pos
    (omega (
      arith,
      mul_assoc x (2 ^ 47) (d * 1),
      mul_assoc x 1 (d * 2 ^ 47),
      ap (λ (z : ℕ). x * z) (mul-one d),
      mul_left_comm x d (2 ^ 47),
      mul_comm (2 ^ 47) (d * 1),
      mul-one d,
      mul-one x,
    ))) in
    let v : HasValue (round binary64 s (x * 2 ^ 47 % (884279719003555 * d)) (d * 2 ^ 47)) s (x * 2 ^ 0) (d * 1) =
    subst (λ (y : Float). HasValue y s (x * 2 ^ 0) (d * 1)) (sym p) (exact_times s 0 m e (lit≤ tt) hm hd (omega (arith, h))) in
    value-units s (round binary64 s (x * 2 ^ 47 % (884279719003555 * d)) (d * 2 ^ 47)) (remainder s m e) (x * 2 ^ 0) (d * 1) d-pos v
    ∙ rw (mul-one x, mul-one d) (sym (units_floor s m e fit (le_of_lt h)))

-- BELOW 8192 and from TAU on x is a whole number of 2 ^ -50, as TAU is: 7074237752028440
fifty : (m : ℕ) (e : ℤ) → m < 2 ^ 53 → 884279719003555 * down e ≤ m * up e * 2 ^ 47 → (k : ℕ) × (m * up e * 2 ^ 50 ≡ k * down e)
fifty m (pos k) hm h = (m * 2 ^ k * 2 ^ 50, sym (mul-one (m * 2 ^ k * 2 ^ 50)))
fifty m (negsuc k) hm h =
    let a : 2 ^ suc k < 2 ^ 51 = omega (arith, h) in
    let b : suc k ≤ 50 = below a in
    let back : 50 - suc k + suc k ≡ 50 = omega arith in
    let p : 2 ^ (50 - suc k) * 2 ^ suc k ≡ 2 ^ 50 = sym (pow-add 2 (50 - suc k) (suc k)) ∙ ap (λ (z : ℕ). 2 ^ z) back in
    (m * 2 ^ (50 - suc k), rw (mul-one m) (sym (mul_assoc m (2 ^ (50 - suc k)) (2 ^ suc k) ∙ ap (λ (z : ℕ). m * z) p)))
  where
    below : 2 ^ suc k < 2 ^ 51 → suc k ≤ 50
    below a = let l : suc k < 51 = lt_of_not-le (λ (l : 51 ≤ suc k). not-le_of_lt a (pow_mono {j = suc k} l)) in omega arith

-- the remainder of k is that of x
pub same_remainder : (n d k : ℕ) → 0 < d → n * 8 ≡ k * d → k % 7074237752028440 * d ≡ n % (884279719003555 * d) * 8
same_remainder n d k D e =
    let b = 884279719003555 * d in
    let q = n / b in
    let a = n % b in
    let a_lt : a < b = mod-lt n (mul-pos (lit< tt) D) in
    let n-is : q * b + a ≡ n = div-add-mod' n b in
    let qb : q * b ≡ 884279719003555 * (q * d) = mul_left_comm q 884279719003555 d in
    let qt : q * 7074237752028440 * d ≡ 7074237752028440 * (q * d) = rw (mul_comm q 7074237752028440) (mul_assoc 7074237752028440 q d) in
    let le : q * 7074237752028440 ≤ k = le_of_mul-le-mul_right {k = d} (omega arith) D in
    let y = k - q * 7074237752028440 in
    let y-is : y + q * 7074237752028440 ≡ k = omega arith in
    let yd : y * d + q * 7074237752028440 * d ≡ k * d = sym (add-mul y (q * 7074237752028440) d) ∙ ap (λ (z : ℕ). z * d) y-is in
    let y-lt : y < 7074237752028440 = lt_of_mul-lt-mul_right d (omega arith) in
    let r : k % 7074237752028440 ≡ y = omega arith in
    rw r (omega arith)

module _ (s : Bool) (m : ℕ) (e : ℤ) (fit : T (fits binary64 (fin s m e))) (from : 884279719003555 * down e ≤ m * up e * 2 ^ 47) (to : m * up e < 8192 * down e) where
  abbrev x : ℕ
  x = m * up e

  abbrev d : ℕ
  d = down e

  hm : m < 2 ^ 53
  hm = fits_num binary64 s m e fit

  fifty_units : angle.units (rem binary64 (fin s m e) tau) ≡ (x * 2 ^ 50 / d) % 7074237752028440 * 2048
  unfolding rem tau of_bits of_fields odd count_trailing_zeros
  fifty_units =
      let w = fifty m e hm from in
      let k = w.0 in
      let k-is : x * 2 ^ 50 ≡ k * d = w.1 in
      let n = x * 2 ^ 47 % (884279719003555 * d) in
      let q = k % 7074237752028440 in
      let c = d * 2 ^ 47 in
      let f : x * 2 ^ 50 / d ≡ k = rw k-is (mul-div_cancel k (down_pos e)) in
      let g : q * d ≡ n * 8 = same_remainder (x * 2 ^ 47) d k (down_pos e) (omega (arith, k-is)) in
      let p : round binary64 s n c ≡ round binary64 s q (2 ^ 50) =
      round_same binary64 s n c q (2 ^ 50) (mul-pos (down_pos e) (lit< tt)) (lit< tt) (omega (arith, g, mul_assoc q d (2 ^ 47))) in
      let q-lt : q < 2 ^ 53 = omega arith in
      let v : HasValue (round binary64 s n c) s q (2 ^ 50) =
      subst (λ (y : Float). HasValue y s q (2 ^ 50)) (sym p)
      (round_exact binary64 s q (2 ^ 50) q 1024 (lit< tt) q-lt (lt_of_lt_of_le (shl_lt 53 1024 q-lt) (lit≤ tt)) (sym (mul_assoc q (2 ^ 1024) (2 ^ 50)))) in
      value-units s (round binary64 s n c) (remainder s m e) q (2 ^ 50) (lit< tt) v
      ∙ (rw f (ap (λ (z : ℕ). z / 2 ^ 50) (sym (mul_assoc q 2048 (2 ^ 50))) ∙ mul-div_cancel (q * 2048) (lit< tt)))

-- ---- as the code asks: of any float that passes its tests
size_from : (s : Bool) (m : ℕ) (e : ℤ) (n : ℕ) (b : ℤ) → lt (size_of (fin s m e)) (fin false n b) ≡ false → 0 < n * up b → n * up b * down e ≤ m * up e * down b
unfolding lt
size_from s m e n b t p = by_sign s (λ (y : Float). lt y (fin false n b) ≡ false → n * up b * down e ≤ m * up e * down b) m e
    (λ t. ltb-false (m * up e * down b) (n * up b * down e) t)
    (λ z t.
    let l : m * up e * down b + n * up b * down e ≤ 0 = ltb-false 0 (m * up e * down b + n * up b * down e) t in
    let y : ⊥ = omega (arith, l, mul-pos p (down_pos e)) in absurd y)
    t

-- below TAU
module _ (x : Float) (fit : T (fits binary64 x)) (below : lt (size_of x) tau ≡ true) where
  pub turn_may_cut : MayCut (mul binary64 (size_of x) (fin false 1 (pos 61)))
  unfolding tau size_of lt neg of_bits of_fields odd count_trailing_zeros
  turn_may_cut = go x fit below
    where
      go : (x : Float) → T (fits binary64 x) → lt (size_of x) tau ≡ true → MayCut (mul binary64 (size_of x) (fin false 1 (pos 61)))
      go nan f t = absurd (false≢true t)
      go (inf true) f t = absurd (false≢true t)
      go (inf false) f t = absurd (false≢true t)
      go (fin s m e) f t = units_may_cut s m e f (le_of_lt (size_below s m e 884279719003555 (negsuc 46) t (lit< tt)))

  pub turn_units : angle.units (rem binary64 x tau) ≡ angle.units x
  unfolding tau size_of lt neg of_bits of_fields odd count_trailing_zeros
  turn_units = go x fit below
    where
      go : (x : Float) → T (fits binary64 x) → lt (size_of x) tau ≡ true → angle.units (rem binary64 x tau) ≡ angle.units x
      go nan f t = absurd (false≢true t)
      go (inf true) f t = absurd (false≢true t)
      go (inf false) f t = absurd (false≢true t)
      go (fin s m e) f t = below_tau s m e f (size_below s m e 884279719003555 (negsuc 46) t (lit< tt))

-- ---- by the pattern of the size
module _ (x : Float) (fit : T (fits binary64 (abs x))) where
  abbrev bits : ℕ
  bits = to_bits binary64 (abs x)

  -- below TAU
  pub turn_by_bits : lt (size_of (abs x)) tau ≡ true → 1014 ≤ field bits → (field bits < 1014 + 12) × (digits_of bits * 2 ^ (field bits - 1014) ≡ angle.units (rem binary64 x tau))
  unfolding abs tau size_of lt neg of_bits of_fields odd count_trailing_zeros
  turn_by_bits t l = go x fit t l
    where
      go : (x : Float) → T (fits binary64 (abs x)) → lt (size_of (abs x)) tau ≡ true → 1014 ≤ field (to_bits binary64 (abs x)) →
          (field (to_bits binary64 (abs x)) < 1014 + 12) × (digits_of (to_bits binary64 (abs x)) * 2 ^ (field (to_bits binary64 (abs x)) - 1014) ≡ angle.units (rem binary64 x tau))
      go nan f t l = absurd (false≢true t)
      go (inf s) f t l = absurd (false≢true t)
      go (fin s m e) f t l =
          let h : m * up e * 2 ^ 47 < 884279719003555 * down e = size_below false m e 884279719003555 (negsuc 46) t (lit< tt) in
          let k = digits_of (to_bits binary64 (fin false m e)) * 2 ^ (field (to_bits binary64 (fin false m e)) - 1014) in
          let v = by_bits m e f 61 1014 refl (lit≤ tt) l in
          let w : m * up e * 2 ^ 61 / down e ≡ k = ap (λ (n : ℕ). n / down e) v ∙ mul-div_cancel k (down_pos e) in
          (field-most m e f 3 (le_trans (lit≤ tt) l) (omega (arith, h)), sym (units-abs (fin s m e) ∙ below_tau false m e f h ∙ units_floor false m e f (le_of_lt h) ∙ w))

  -- from TAU on and below 8192
  pub long_by_bits : lt (size_of (abs x)) tau ≡ false → lt (size_of (abs x)) (fin false 1 (pos 13)) ≡ true →
      (1025 ≤ field bits) × (field bits < 1025 + 12) × (digits_of bits * 2 ^ (field bits - 1025) % 7074237752028440 * 2048 ≡ angle.units (rem binary64 x tau))
  unfolding abs tau size_of lt neg of_bits of_fields odd count_trailing_zeros
  long_by_bits t u = go x fit t u
    where
      go : (x : Float) → T (fits binary64 (abs x)) → lt (size_of (abs x)) tau ≡ false → lt (size_of (abs x)) (fin false 1 (pos 13)) ≡ true →
          (1025 ≤ field (to_bits binary64 (abs x))) × (field (to_bits binary64 (abs x)) < 1025 + 12)
          × (digits_of (to_bits binary64 (abs x)) * 2 ^ (field (to_bits binary64 (abs x)) - 1025) % 7074237752028440 * 2048 ≡ angle.units (rem binary64 x tau))
      go nan f t u = absurd (false≢true u)
      go (inf s) f t u = absurd (false≢true u)
      go (fin s m e) f t u =
          let from : 884279719003555 * down e ≤ m * up e * 2 ^ 47 = size_from false m e 884279719003555 (negsuc 46) t (lit< tt) in
          let to : m * up e < 8192 * down e = omega (arith, size_below false m e 1 (pos 13) u (lit< tt)) in
          let l : 1025 ≤ field (to_bits binary64 (fin false m e)) = field-least m e f (omega (arith, from)) in
          let k = digits_of (to_bits binary64 (fin false m e)) * 2 ^ (field (to_bits binary64 (fin false m e)) - 1025) in
          let w : m * up e * 2 ^ 50 / down e ≡ k = ap (λ (n : ℕ). n / down e) (by_bits m e f 50 1025 refl (lit≤ tt) l) ∙ mul-div_cancel k (down_pos e) in (
            l,
            le_trans (field-most m e f 13 (le_trans (lit≤ tt) l) (omega (arith, to))) (lit≤ tt),
            sym (units-abs (fin s m e) ∙ fifty_units false m e f from to ∙ ap (λ (n : ℕ). n % 7074237752028440 * 2048) w),
          )

-- beyond: a remainder that is a number
pub far_may_cut : (x : Float) → is_nan (rem binary64 x tau) ≡ false → MayCut (mul binary64 (size_of (rem binary64 x tau)) (fin false 1 (pos 61)))
unfolding rem is_nan
far_may_cut nan t = absurd (true≢false t)
far_may_cut (inf s) t = absurd (true≢false t)
far_may_cut (fin s m e) t =
    let a = remainder s m e in
    subst (λ (r : Float). MayCut (mul binary64 (size_of r) (fin false 1 (pos 61)))) (sym a.is) (units_may_cut s a.m a.e a.fit a.small)
