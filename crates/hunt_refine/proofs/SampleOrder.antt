-- The samples of a span come in order, rising where the span is not negative and falling where it is not positive; they are held and bounded.
use mathlib.Core.Path.{refl, sym, subst}
use mathlib.Core.Bool.{false}
use Prim.Native.Nat.{ℕ, zero as nought, suc, ◌*◌, ◌^◌, ◌≤◌, ◌<◌}
use native.Mathlib.Nat.{le_trans as ≤_trans, mul-pos, mul-le-mul_right}
use native.Mathlib.Omega.{arith}
use lib.IntN.{pos, negsuc}
use lib.Dec.{T, eqb, lit<, lit≤}
use lib.Ieee.{Float, nan, inf, fin, binary64, add, mul, of_int, le, fits, up, down}
use lib.Ieee.Fits.{cond-fits, add-fits}
use lib.Ieee.Exact.{HasValue}
use lib.Ieee.Order.{round_mono}
use lib.Ieee.Scale.{finite}
use lib.Ieee.Positive.{den, den_pos}
use Rattle.laws.specs.Literal.{zero_datum as zero}
use Rattle.laws.specs.Size.{power, abs, roomy}
use Rattle.laws.specs.Part.{part}
use Rattle.laws.proofs.Fraction.{plus, less, le→cross, cross→le}
use Rattle.laws.proofs.Order.{le_trans, le_refl, finite_number}
use Rattle.laws.proofs.Value.{makes_own}
use Rattle.laws.proofs.Rounding.{Rounds, not_below_lem, not_above}
use Rattle.laws.proofs.Monotone.{add_mono, mul_mono_right, mul_anti_right, mul-not-negative, mul-not-positive, add_grows, add_shrinks}
use Rattle.laws.proofs.Bounds.{add-bounded, mul-bounded, div-bounded, bounded_finite, bounded-roomy, power_le}
use Rattle.laws.proofs.Quotient.{whole, div-whole}
use Rattle.hunt.specs.Cells.{sample}
use Rattle.hunt_refine.proofs.Samples.{cut, cut_at, cut_start}

-- ---- whole numbers as floats
abbrev float : ℕ → Float
float i = of_int binary64 (pos i)

pub whole_mono : (i j : ℕ) → i ≤ j → T (le (of_int binary64 (pos i)) (of_int binary64 (pos j)))
unfolding of_int
whole_mono i j h = round_mono binary64 i 1 j 1 (lit< tt) (lit< tt) (omega arith)

whole_above : (i : ℕ) → T (le zero (of_int binary64 (pos i)))
unfolding of_int
whole_above i = round_mono binary64 0 1 i 1 (lit< tt) (lit< tt) (omega arith)

whole-bounded : (i : ℕ) → i ≤ 2 ^ 20 → T (le (abs (float i)) (power 20))
whole-bounded i h = go (float i) (whole i (≤_trans h (lit≤ tt)))
  where
    go : (x : Float) → HasValue x false i 1 → T (le (abs x) (power 20))
    go nan v = absurd v
    go (inf s) v = absurd v
    go (fin s m e) v = unfold abs in (cross→le (fin false m e) (power 20) tt tt (omega (arith, v.1, mul-le-mul_right (down e) h)))

whole_far : (i : ℕ) → 0 < i → i ≤ 2 ^ 20 → T (le (fin false 1 (negsuc 0)) (abs (float i)))
whole_far i l h = go (float i) (whole i (≤_trans h (lit≤ tt)))
  where
    go : (x : Float) → HasValue x false i 1 → T (le (fin false 1 (negsuc 0)) (abs x))
    go nan v = absurd v
    go (inf s) v = absurd v
    go (fin s m e) v = unfold abs in (cross→le (fin false 1 (negsuc 0)) (fin false m e) tt tt (omega (arith, v.1, mul-le-mul_right (down e) l)))

-- ---- the step has the sign of the span
step_rounds : (span : Float) (n : ℕ) → T (finite span) → 0 < n → n ≤ 2 ^ 20 → Rounds binary64 (part span n) (plus span) (less span) (n * den span)
step_rounds nan n p P Q = absurd p
step_rounds (inf s) n p P Q = absurd p
step_rounds (fin s m e) n p P Q = record { sign = s; size = m * up e; makes = makes_own s (m * up e); is = div-whole s m e (of_int binary64 (pos n)) n P (whole n (≤_trans Q (lit≤ tt))) }

step_above : (span : Float) (n : ℕ) → T (finite span) → 0 < n → n ≤ 2 ^ 20 → T (le zero span) → T (le zero (part span n))
step_above span n p P Q h =
    not_below_lem binary64 zero (part span n) (plus span) (less span) (n * den span) (unfold fits in tt) tt (mul-pos P (den_pos span))
    (step_rounds span n p P Q) (omega (arith, le→cross zero span tt p h))

step_below : (span : Float) (n : ℕ) → T (finite span) → 0 < n → n ≤ 2 ^ 20 → T (le span zero) → T (le (part span n) zero)
step_below span n p P Q h =
    not_above binary64 zero (part span n) (plus span) (less span) (n * den span) (unfold fits in tt) tt (mul-pos P (den_pos span))
    (step_rounds span n p P Q) (omega (arith, le→cross span zero p tt h))

-- ---- a start and a span of size at most 2^12, cut into n cells
pub cut_fits : (start span : Float) (n i : ℕ) → T (fits binary64 start) → T (fits binary64 (cut start span n i))
unfolding sample
cut_fits start span n i f =
    let x = add binary64 start (mul binary64 (part span n) (of_int binary64 (pos i))) in
    cond-fits binary64 (eqb i 0) start x f (add-fits binary64 start (mul binary64 (part span n) (of_int binary64 (pos i))))

module _ (start span : Float) (a : T (le (abs start) (power 12))) (b : T (le (abs span) (power 12))) (n : ℕ) (P : 0 < n) (Q : n ≤ 2 ^ 20) where
  step-bounded : T (le (abs (part span n)) (power 13))
  step-bounded = div-bounded span (of_int binary64 (pos n)) 12 0 (lit≤ tt) b (whole_far n P Q)

  offset_bounded : (i : ℕ) → i ≤ 2 ^ 20 → T (le (abs (mul binary64 (part span n) (float i))) (power 33))
  offset_bounded i h = mul-bounded (part span n) (float i) 13 20 (lit≤ tt) step-bounded (whole-bounded i h)

  start-bounded : T (le (abs start) (power 33))
  start-bounded = le_trans (abs start) (power 12) (power 33) a (power_le 12 33 (lit≤ tt))

  pub cut_bounded : (i : ℕ) → i ≤ 2 ^ 20 → T (le (abs (cut start span n i)) (power 34))
  cut_bounded nought h = subst (λ (z : Float). T (le (abs z) (power 34))) (sym (cut_start start span n 0 refl)) (le_trans (abs start) (power 33) (power 34) start-bounded (power_le 33 34 (lit≤ tt)))
  cut_bounded (suc i) h =
      subst (λ (z : Float). T (le (abs z) (power 34))) (sym (cut_at start span n (suc i) (omega arith)))
      (add-bounded start (mul binary64 (part span n) (float (suc i))) 33 (lit≤ tt) start-bounded (offset_bounded (suc i) h))

  pub cut_roomy : (i : ℕ) → i ≤ 2 ^ 20 → T (roomy binary64 (cut start span n i))
  cut_roomy i h = bounded-roomy (cut start span n i) 34 (lit≤ tt) (cut_bounded i h)

  step_f : T (finite (part span n))
  step_f = bounded_finite (part span n) 13 step-bounded

  float_f : (i : ℕ) → i ≤ 2 ^ 20 → T (finite (float i))
  float_f i h = bounded_finite (float i) 20 (whole-bounded i h)

  offset_f : (i : ℕ) → i ≤ 2 ^ 20 → T (finite (mul binary64 (part span n) (float i)))
  offset_f i h = bounded_finite (mul binary64 (part span n) (float i)) 33 (offset_bounded i h)

  start_f : T (finite start)
  start_f = bounded_finite start 12 a

  span_f : T (finite span)
  span_f = bounded_finite span 12 b

  -- from one sample to the next, rising
  pub cut_rises : T (fits binary64 start) → T (le zero span) → (i : ℕ) → suc i ≤ 2 ^ 20 → T (le (cut start span n i) (cut start span n (suc i)))
  cut_rises f l nought h =
      rw (cut_start start span n 0 refl, cut_at start span n 1 (lit< tt))
      (add_grows binary64 start (mul binary64 (part span n) (float 1)) f start_f (offset_f 1 h)
      (mul-not-negative binary64 (part span n) (float 1) step_f (float_f 1 h) (step_above span n span_f P Q l) (whole_above 1)))
  cut_rises f l (suc i) h =
      let g : suc i ≤ 2 ^ 20 = omega arith in
      rw (cut_at start span n (suc i) (omega arith), cut_at start span n (suc (suc i)) (omega arith))
      (add_mono binary64 start start (mul binary64 (part span n) (float (suc i))) (mul binary64 (part span n) (float (suc (suc i)))) start_f start_f (offset_f (suc i) g) (offset_f (suc (suc i)) h)
      (le_refl start (finite_number start start_f))
      (mul_mono_right binary64 (part span n) (float (suc i)) (float (suc (suc i))) step_f
      (float_f (suc i) g) (float_f (suc (suc i)) h) (step_above span n span_f P Q l) (whole_mono (suc i) (suc (suc i)) (omega arith))))

  -- and falling
  pub cut_falls : T (fits binary64 start) → T (le span zero) → (i : ℕ) → suc i ≤ 2 ^ 20 → T (le (cut start span n (suc i)) (cut start span n i))
  cut_falls f l nought h =
      rw (cut_start start span n 0 refl, cut_at start span n 1 (lit< tt))
      (add_shrinks binary64 start (mul binary64 (part span n) (float 1)) f start_f (offset_f 1 h)
      (mul-not-positive binary64 (part span n) (float 1) step_f (float_f 1 h) (step_below span n span_f P Q l) (whole_above 1)))
  cut_falls f l (suc i) h =
      let g : suc i ≤ 2 ^ 20 = omega arith in
      rw (cut_at start span n (suc i) (omega arith), cut_at start span n (suc (suc i)) (omega arith))
      (add_mono binary64 start start (mul binary64 (part span n) (float (suc (suc i)))) (mul binary64 (part span n) (float (suc i))) start_f start_f (offset_f (suc (suc i)) h) (offset_f (suc i) g)
      (le_refl start (finite_number start start_f))
      (mul_anti_right binary64 (part span n) (float (suc i)) (float (suc (suc i))) step_f
      (float_f (suc i) g) (float_f (suc (suc i)) h) (step_below span n span_f P Q l) (whole_mono (suc i) (suc (suc i)) (omega arith))))
