-- The rule's sine and cosine of one remainder m * 2 ^ e with the sign s: near the series, and at most 1.
use mathlib.Core.Path.{◌≡◌, sym, ◌∙◌}
use mathlib.Core.Bool.{Bool, true, false, cond}
use Prim.Native.Nat.{ℕ, ◌+◌, ◌*◌, ◌≤◌, ◌<◌, ◌^◌}
use native.Mathlib.Nat.{add-mul, mul_assoc, mul-one, one-mul, zero-mul, mul-le-mul_right, pow-suc, suc-mul}
use native.Mathlib.Omega.{arith}
use lib.IntN.{ℤ, pos}
use lib.Dec.{T, leb, ltb, lit≤}
use borrow.Author.Tests.{leb-false}
use lib.Ieee.{Float, nan, inf, fin, binary64, up, down, fits, unlike}
use lib.Ieee.Fits.{down_pos}
use lib.Ieee.Exact.{HasValue}
use lib.Ieee.Positive.{num, den}
use Rattle.series.specs.Poly.{value}
use Rattle.series.specs.Factorial.{factorial}
use Rattle.sine_table.specs.Series.{sine_gains, sine_losses, cosine_gains, cosine_losses}
use Rattle.sine.specs.Angle.{units}
use Rattle.sine.specs.Rule.{sine_units, cosine_units, places, float}
use Rattle.sine.proofs.Remainders.{units-near, units_small}
use Rattle.sine_bound.specs.Within.{Within}
use Rattle.sine_bound.proofs.Angle.{sine_close, cosine_close, sine_range, cosine_range}
use Rattle.sine_bound.proofs.Close.{Close}
use Rattle.sine_bound.proofs.Peak.{InRange}
use Rattle.sine_bound.proofs.Answer.{magnitude, magnitude_le, float_value}
use Rattle.sine_bound.proofs.Places.{places-off, off_flip, off-within}
use Rattle.sine_bound.proofs.Small.{Small, small_sine, small_cosine}

-- ---- near 0: v / f is n / d
own : (n d f g l v : ℕ) → n * f ≡ v * d → Small f g l v → (2 ^ 44 * (n * f + l * d) ≤ 2 ^ 44 * (g * d) + f * d) × (2 ^ 44 * (g * d) ≤ 2 ^ 44 * (n * f + l * d) + f * d)
own n d f g l v e w =
    let a = mul-le-mul_right d w.above in
    let b = mul-le-mul_right d w.below in
    let x₁ = add-mul (2 ^ 50 * (l + v)) f d in
    let x₂ = add-mul (2 ^ 50 * g) f d in
    let y₁ = mul_assoc (2 ^ 50) (l + v) d in
    let y₂ = mul_assoc (2 ^ 50) g d in
    let y₃ = add-mul l v d in
    (omega arith, omega arith)

small_within : (s : Bool) (m : ℕ) (e : ℤ) (f g l v : ℕ) → m * up e * f ≡ v * down e → Small f g l v → Within (fin s m e) f (cond s l g) (cond s g l)
small_within false m e f g l v i w =
    let o = own (m * up e) (down e) f g l v i w in
    let z = zero-mul f in
    record { is_finite = tt; above = omega (arith, o); below = omega (arith, o) }
small_within true m e f g l v i w =
    let o = own (m * up e) (down e) f g l v i w in
    let z = zero-mul f in
    record { is_finite = tt; above = omega (arith, o); below = omega (arith, o) }

value_size : (y : Float) (b : Bool) (k : ℕ) → k ≤ 2 ^ 53 → HasValue y b k (2 ^ 53) → num y ≤ den y
value_size nan b k h v = absurd v
value_size (inf s) b k h v = absurd v
value_size (fin s m e) b k h v = omega (arith, v.1, mul-le-mul_right (down e) h)

float_size : (t : ℕ) (flip : Bool) → num (float t flip) ≤ den (float t flip)
float_size t flip = value_size (float t flip) (unlike (ltb (places t) (3 * 2 ^ 53)) flip) (magnitude (places t)) (magnitude_le t) (float_value t flip)

-- the float of a number that is near the series and in range
float-within : (t f g l : ℕ) (flip : Bool) → Close 17008 t f g l → InRange t → Within (float t flip) f (cond flip l g) (cond flip g l)
float-within t f g l flip c r =
    let q = places t in
    off-within (float t flip) (unlike (ltb q (3 * 2 ^ 53)) flip) (magnitude q) f _ _ (float_value t flip)
    (off_flip (ltb q (3 * 2 ^ 53)) flip (magnitude q) f g l (places-off t f g l c r))

module _ (s : Bool) (m : ℕ) (e : ℤ) (fit : T (fits binary64 (fin s m e))) (small : m * up e * 2 ^ 47 ≤ 884279719003555 * down e) where
  abbrev n : ℕ
  n = units (fin s m e)

  abbrev x : ℕ
  x = m * up e

  abbrev d : ℕ
  d = down e

  whole : (n * d ≤ 2 ^ 61 * x) × (2 ^ 61 * x ≤ (n + 1) * d)
  whole = units-near s m e fit small

  in_table : n < 203 * 2 ^ 56
  in_table = units_small s m e fit small

  abbrev f : ℕ
  f = factorial 43 * d ^ 43

  -- an angle of at most 2 ^ -26
  tiny : n < 2 ^ 35 → 2 ^ 26 * x ≤ d
  tiny h = omega (arith, whole.1, mul-le-mul_right d h, add-mul n 1 d, suc-mul n d)

  power : x * f ≡ x * (factorial 43 * d ^ 42) * d
  power = rw (pow-suc d 42, ← mul_assoc (factorial 43) (d ^ 42) d) (sym (mul_assoc x (factorial 43 * d ^ 42) d))

  pub sine-at : (b : Bool) → leb (2 ^ 35) n ≡ b →
      Within (cond b (float (sine_units n) s) (fin s m e)) f (cond s (value 43 sine_losses x d) (value 43 sine_gains x d)) (cond s (value 43 sine_gains x d) (value 43 sine_losses x d))
  sine-at true i =
      float-within (sine_units n) f (value 43 sine_gains x d) (value 43 sine_losses x d) s
      (sine_close n x d (down_pos e) whole.0 whole.1 in_table) (sine_range n x d (down_pos e) whole.0 whole.1 in_table)
  sine-at false i =
      small_within s m e f (value 43 sine_gains x d) (value 43 sine_losses x d) (x * (factorial 43 * d ^ 42)) power
      (small_sine x d (tiny (omega (arith, leb-false (2 ^ 35) n i))))

  pub cosine-at : (b : Bool) → leb (2 ^ 34) n ≡ b →
      Within (cond b (float (cosine_units n) false) (fin false 1 (pos 0))) f (value 43 cosine_gains x d) (value 43 cosine_losses x d)
  cosine-at true i =
      float-within (cosine_units n) f (value 43 cosine_gains x d) (value 43 cosine_losses x d) false
      (cosine_close n x d (down_pos e) whole.0 whole.1 in_table) (cosine_range n x d (down_pos e) whole.0 whole.1 in_table)
  cosine-at false i =
      small_within false 1 (pos 0) f (value 43 cosine_gains x d) (value 43 cosine_losses x d) f (one-mul f ∙ sym (mul-one f))
      (small_cosine x d (tiny (omega (arith, leb-false (2 ^ 34) n i))))

  -- the sizes are at most 1
  pub sine_size : (flip : Bool) (b : Bool) → leb (2 ^ 35) n ≡ b → num (cond b (float (sine_units n) flip) (fin s m e)) ≤ den (cond b (float (sine_units n) flip) (fin s m e))
  sine_size flip true i = float_size (sine_units n) flip
  sine_size flip false i = omega (arith, tiny (omega (arith, leb-false (2 ^ 35) n i)))

  pub cosine_size : (b : Bool) → leb (2 ^ 34) n ≡ b → num (cond b (float (cosine_units n) false) (fin false 1 (pos 0))) ≤ den (cond b (float (cosine_units n) false) (fin false 1 (pos 0)))
  cosine_size true i = float_size (cosine_units n) false
  cosine_size false i = lit≤ tt
