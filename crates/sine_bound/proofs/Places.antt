-- From the rule's number to the float: rounding to 53 places and cutting to 1 keep it within 34016 / 2 ^ 61, which is below 2 ^ -44, of
-- the series.
use mathlib.Core.Path.{◌≡◌, refl, sym, ◌∙◌, ap}
use mathlib.Core.Bool.{Bool, true, false, cond, true≢false}
use Prim.Native.Nat.{ℕ, ◌+◌, ◌*◌, ◌-◌, ◌/◌, ◌≤◌, ◌<◌, ◌^◌}
use native.Mathlib.Nat.{add-mul, mul_assoc, mul_right_comm, mul-le-mul_right, zero-mul}
use native.Mathlib.Omega.{arith}
use lib.Dec.{ltb}
use borrow.Author.Tests.{ltb-true, ltb-false}
use lib.Ieee.{Float, nan, inf, fin, up, down, unlike}
use lib.Ieee.Exact.{HasValue}
use lib.Ieee.Fits.{down_pos}
use Rattle.sine.specs.Rule.{rounded, ranged, places}
use Rattle.sine_bound.specs.Within.{Within}
use Rattle.sine_bound.proofs.Close.{Close}
use Rattle.sine_bound.proofs.Peak.{InRange}
use Rattle.sine_bound.proofs.Answer.{magnitude}

-- to 53 places, and not outside of 2 to 4
places-near : (t : ℕ) → InRange t → (256 * places t ≤ t + 17008) × (t ≤ 256 * places t + 17008)
unfolding places ranged rounded InRange
places-near t r = low (ltb k (2 ^ 54)) refl
  where
    k : ℕ
    k = (t + 2 ^ 7) / 2 ^ 8

    high : (b : Bool) → ltb (2 ^ 55) k ≡ b → (256 * cond b (2 ^ 55) k ≤ t + 17008) × (t ≤ 256 * cond b (2 ^ 55) k + 17008)
    high true e = (omega (arith, ltb-true (2 ^ 55) k e), omega (arith, r.0))
    high false e = (omega arith, omega arith)

    low : (b : Bool) → ltb k (2 ^ 54) ≡ b →
        (256 * cond b (2 ^ 54) (cond (ltb (2 ^ 55) k) (2 ^ 55) k) ≤ t + 17008) × (t ≤ 256 * cond b (2 ^ 54) (cond (ltb (2 ^ 55) k) (2 ^ 55) k) + 17008)
    low true e = (omega (arith, r.1), omega (arith, ltb-true k (2 ^ 54) e))
    low false e = high (ltb (2 ^ 55) k) refl

-- k / 2 ^ 53, taken away where b, is within 34016 / 2 ^ 61 of (g - l) / f
pub record Off (b : Bool) (k f g l : ℕ) : Type 0 where
  pub above : 2 ^ 61 * l + 256 * (cond b 0 k * f) ≤ 2 ^ 61 * g + 256 * (cond b k 0 * f) + 34016 * f
  pub below : 2 ^ 61 * g + 256 * (cond b k 0 * f) ≤ 2 ^ 61 * l + 256 * (cond b 0 k * f) + 34016 * f

module _ (t f g l : ℕ) (w : Close 17008 t f g l) (r : InRange t) where
  pub places-off : Off (ltb (places t) (3 * 2 ^ 53)) (magnitude (places t)) f g l
  unfolding magnitude
  places-off = go (ltb (places t) (3 * 2 ^ 53)) refl
    where
      q : ℕ
      q = places t

      lo : 256 * (q * f) ≤ t * f + 17008 * f
      lo = omega (arith, mul-le-mul_right f (places-near t r).0, mul_assoc 256 q f, add-mul t 17008 f)

      hi : t * f ≤ 256 * (q * f) + 17008 * f
      hi = omega (arith, mul-le-mul_right f (places-near t r).1, mul_assoc 256 q f, add-mul (256 * q) 17008 f)

      go : (b : Bool) → ltb q (3 * 2 ^ 53) ≡ b → Off b (cond b (3 * 2 ^ 53 - q) (q - 3 * 2 ^ 53)) f g l
      go true e =
          let u = 3 * 2 ^ 53 - q in
          let s : u + q ≡ 3 * 2 ^ 53 = omega (arith, ltb-true q (3 * 2 ^ 53) e) in
          let p : u * f + q * f ≡ 3 * 2 ^ 53 * f = sym (add-mul u q f) ∙ ap (λ (z : ℕ). z * f) s in
          let z = zero-mul f in
          record { above = omega (arith, w.above, p, lo, hi); below = omega (arith, w.below, p, lo, hi) }
      go false e =
          let u = q - 3 * 2 ^ 53 in
          let s : u + 3 * 2 ^ 53 ≡ q = omega (arith, ltb-false q (3 * 2 ^ 53) e) in
          let p : u * f + 3 * 2 ^ 53 * f ≡ q * f = sym (add-mul u (3 * 2 ^ 53) f) ∙ ap (λ (z : ℕ). z * f) s in
          let z = zero-mul f in
          record { above = omega (arith, w.above, p, lo, hi); below = omega (arith, w.below, p, lo, hi) }

-- a change of sign
pub off_flip : (b s : Bool) (k f g l : ℕ) → Off b k f g l → Off (unlike b s) k f (cond s l g) (cond s g l)
off_flip true true k f g l w = record { above = w.below; below = w.above }
off_flip true false k f g l w = w
off_flip false true k f g l w = record { above = w.below; below = w.above }
off_flip false false k f g l w = w

-- n / d is k / 2 ^ 53
scaled_above : (n d k f g l : ℕ) → 0 < d → n * 2 ^ 53 ≡ k * d → 2 ^ 61 * l + 256 * (k * f) ≤ 2 ^ 61 * g + 34016 * f → 2 ^ 44 * (n * f + l * d) ≤ 2 ^ 44 * (g * d) + f * d
scaled_above n d k f g l D e h =
    let h' = mul-le-mul_right d h in
    let p : n * f * 2 ^ 53 ≡ k * f * d = mul_right_comm n f (2 ^ 53) ∙ ap (λ (z : ℕ). z * f) e ∙ mul_right_comm k d f in
    let x₁ = add-mul (2 ^ 61 * l) (256 * (k * f)) d in
    let x₂ = add-mul (2 ^ 61 * g) (34016 * f) d in
    let y₁ = mul_assoc (2 ^ 61) l d in
    let y₂ = mul_assoc 256 (k * f) d in
    let y₃ = mul_assoc (2 ^ 61) g d in
    let y₄ = mul_assoc 34016 f d in
    omega arith

scaled_below : (n d k f g l : ℕ) → 0 < d → n * 2 ^ 53 ≡ k * d → 2 ^ 61 * g ≤ 2 ^ 61 * l + 256 * (k * f) + 34016 * f → 2 ^ 44 * (g * d) ≤ 2 ^ 44 * (n * f + l * d) + f * d
scaled_below n d k f g l D e h =
    let h' = mul-le-mul_right d h in
    let p : n * f * 2 ^ 53 ≡ k * f * d = mul_right_comm n f (2 ^ 53) ∙ ap (λ (z : ℕ). z * f) e ∙ mul_right_comm k d f in
    let x₁ = add-mul (2 ^ 61 * l + 256 * (k * f)) (34016 * f) d in
    let x₂ = add-mul (2 ^ 61 * l) (256 * (k * f)) d in
    let y₁ = mul_assoc (2 ^ 61) l d in
    let y₂ = mul_assoc 256 (k * f) d in
    let y₃ = mul_assoc (2 ^ 61) g d in
    let y₄ = mul_assoc 34016 f d in
    omega arith

pub off-within : (y : Float) (b : Bool) (k f g l : ℕ) → HasValue y b k (2 ^ 53) → Off b k f g l → Within y f g l
off-within nan b k f g l v w = absurd v
off-within (inf s) b k f g l v w = absurd v
off-within (fin false m e) true k f g l v w = absurd (true≢false (sym v.0))
off-within (fin true m e) false k f g l v w = absurd (true≢false v.0)
off-within (fin false m e) false k f g l v w =
    let z = zero-mul f in
    let a = scaled_above (m * up e) (down e) k f g l (down_pos e) v.1 (omega (arith, w.above)) in
    let b = scaled_below (m * up e) (down e) k f g l (down_pos e) v.1 (omega (arith, w.below)) in
    record { is_finite = tt; above = omega (arith, a); below = omega (arith, b) }
off-within (fin true m e) true k f g l v w =
    let z = zero-mul f in
    let a = scaled_above (m * up e) (down e) k f l g (down_pos e) v.1 (omega (arith, w.below)) in
    let b = scaled_below (m * up e) (down e) k f l g (down_pos e) v.1 (omega (arith, w.above)) in
    record { is_finite = tt; above = omega (arith, b); below = omega (arith, a) }
