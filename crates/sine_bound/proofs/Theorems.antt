-- THE PROMISES OF THE SINE AND THE COSINE, each as 01, 'Roots and angles', states it, for every float. `sine` and `cosine` are the
-- rule, to which the contracts of `sin`, `cos` and `sin_cos` are equal in every bit.
use mathlib.Core.Path.{◌≡◌, refl, sym, ◌∙◌, ap, subst}
use mathlib.Core.Bool.{Bool, true, false, cond, not}
use Prim.Native.Nat.{ℕ, ◌*◌, ◌≤◌, ◌<◌, ◌^◌}
use native.Mathlib.Nat.{div-lt_iff_lt-mul}
use native.Mathlib.Omega.{arith}
use lib.IntN.{ℤ, pos}
use lib.Dec.{T, leb}
use borrow.Author.Tests.{leb-true, lt-leb}
use lib.Count.{count_trailing_zeros}
use lib.Ieee.{Float, nan, inf, fin, binary64, up, down, odd, of_bits, of_fields, neg, mul, rem, lt, eq, to_unsigned, fits}
use lib.Ieee.Fits.{down_pos}
use lib.Ieee.Positive.{num, den}
use lib.Ieee.Scale.{finite}
use Rattle.fixed.specs.Size.{size_of}
use Rattle.laws.proofs.SignBit.{signed}
use Rattle.sine.specs.Angle.{tau, units}
use Rattle.sine.specs.Rule.{sine_units, cosine_units, float, sine, cosine}
use Rattle.sine.proofs.Remainders.{Remainder, remainder, eq_self, units_floor, rem_signed, units-signed}
use Rattle.sine_bound.specs.Within.{AtMostOne}
use Rattle.sine_bound.specs.Promise.{NearSine, NearCosine}
use Rattle.sine_bound.proofs.Terms.{sine_gains_lem, sine_losses_lem, cosine_gains_lem, cosine_losses_lem}
use Rattle.sine_bound.proofs.Bounds.{sine-at, cosine-at, sine_size, cosine_size}
use Rattle.sine_bound.proofs.Odd.{sign_is, float_odd}

-- ---- the rule at a finite x, by its remainder
unfoldable pub sine_at : Bool → Float → Float
sine_at s r = cond (leb (2 ^ 35) (units r)) (float (sine_units (units r)) s) r

unfoldable pub cosine_at : Float → Float
cosine_at r = cond (leb (2 ^ 34) (units r)) (float (cosine_units (units r)) false) (fin false 1 (pos 0))

sine_is : (s : Bool) (m : ℕ) (e : ℤ) → sine (fin s m e) ≡ sine_at s (rem binary64 (fin s m e) tau)
unfolding sine sine_at
sine_is s m e = go (leb (2 ^ 35) (units r)) refl
  where
    r : Float
    r = rem binary64 (fin s m e) tau

    go : (b : Bool) → leb (2 ^ 35) (units r) ≡ b → cond b (float (sine_units (units r)) (lt (fin s m e) (of_bits binary64 0))) r ≡ cond b (float (sine_units (units r)) s) r
    go true i = rw (sign_is s m e (leb-true (2 ^ 35) (units r) i)) refl
    go false i = refl

cosine_is : (s : Bool) (m : ℕ) (e : ℤ) → cosine (fin s m e) ≡ cosine_at (rem binary64 (fin s m e) tau)
unfolding cosine cosine_at of_bits of_fields odd count_trailing_zeros
cosine_is s m e =
    let a = remainder s m e in
    let i : eq (rem binary64 (fin s m e) tau) (rem binary64 (fin s m e) tau) ≡ true =
    subst (λ (r : Float). eq r r ≡ true) (sym a.is) (eq_self s a.m a.e) in
    rw i refl

-- what holds at each fraction up to TAU holds at the remainder
at_remainder : (P : Float → Type 0) (s : Bool) (m : ℕ) (e : ℤ) →
    ((k : ℕ) (i : ℤ) → T (fits binary64 (fin s k i)) → k * up i * 2 ^ 47 ≤ 884279719003555 * down i → P (fin s k i)) → P (rem binary64 (fin s m e) tau)
at_remainder P s m e all = let a = remainder s m e in subst P (sym a.is) (all a.m a.e a.fit a.small)

-- ---- "The answer is within 2^-44 of it": of the sum of the first 22 terms of the Taylor series at r
pub sine-near : (x : Float) → T (finite x) → NearSine (rem binary64 x tau) (sine x)
unfolding sine_at
sine-near nan t = absurd t
sine-near (inf s) t = absurd t
sine-near (fin s m e) t = rw (sine_is s m e) (at_remainder (λ (r : Float). NearSine r (sine_at s r)) s m e near)
  where
    near : (k : ℕ) (i : ℤ) → T (fits binary64 (fin s k i)) → k * up i * 2 ^ 47 ≤ 884279719003555 * down i → NearSine (fin s k i) (sine_at s (fin s k i))
    near k i fit small = rw (sine_gains_lem (k * up i) (down i), sine_losses_lem (k * up i) (down i)) at (sine-at s k i fit small (leb (2 ^ 35) (units (fin s k i))) refl)

pub cosine-near : (x : Float) → T (finite x) → NearCosine (rem binary64 x tau) (cosine x)
unfolding cosine_at
cosine-near nan t = absurd t
cosine-near (inf s) t = absurd t
cosine-near (fin s m e) t = rw (cosine_is s m e) (at_remainder (λ (r : Float). NearCosine r (cosine_at r)) s m e near)
  where
    near : (k : ℕ) (i : ℤ) → T (fits binary64 (fin s k i)) → k * up i * 2 ^ 47 ≤ 884279719003555 * down i → NearCosine (fin s k i) (cosine_at (fin s k i))
    near k i fit small = rw (cosine_gains_lem (k * up i) (down i), cosine_losses_lem (k * up i) (down i)) at (cosine-at s k i fit small (leb (2 ^ 34) (units (fin s k i))) refl)

-- ---- "and in -1 to 1"
pub sine-at-most-one : (x : Float) → T (finite x) → AtMostOne (sine x)
unfolding sine_at
sine-at-most-one nan t = absurd t
sine-at-most-one (inf s) t = absurd t
sine-at-most-one (fin s m e) t =
    ((sine-near (fin s m e) t).is_finite, rw (sine_is s m e) (at_remainder (λ (r : Float). num (sine_at s r) ≤ den (sine_at s r)) s m e size))
  where
    size : (k : ℕ) (i : ℤ) → T (fits binary64 (fin s k i)) → k * up i * 2 ^ 47 ≤ 884279719003555 * down i → num (sine_at s (fin s k i)) ≤ den (sine_at s (fin s k i))
    size k i fit small = sine_size s k i fit small s (leb (2 ^ 35) (units (fin s k i))) refl

pub cosine-at-most-one : (x : Float) → T (finite x) → AtMostOne (cosine x)
unfolding cosine_at
cosine-at-most-one nan t = absurd t
cosine-at-most-one (inf s) t = absurd t
cosine-at-most-one (fin s m e) t =
    ((cosine-near (fin s m e) t).is_finite, rw (cosine_is s m e) (at_remainder (λ (r : Float). num (cosine_at r) ≤ den (cosine_at r)) s m e size))
  where
    size : (k : ℕ) (i : ℤ) → T (fits binary64 (fin s k i)) → k * up i * 2 ^ 47 ≤ 884279719003555 * down i → num (cosine_at (fin s k i)) ≤ den (cosine_at (fin s k i))
    size k i fit small = cosine_size s k i fit small (leb (2 ^ 34) (units (fin s k i))) refl

-- ---- "Size of r below 2^-26: the sine is r. Below 2^-27: the cosine is 1."
few : (s : Bool) (k : ℕ) (i : ℤ) (b : ℕ) → T (fits binary64 (fin s k i)) → k * up i * 2 ^ 47 ≤ 884279719003555 * down i → k * up i * 2 ^ 61 < b * down i → units (fin s k i) < b
few s k i b fit small h = rw (units_floor s k i fit small) ((div-lt_iff_lt-mul (down_pos i)).1 h)

pub sine_small : (x : Float) → T (finite x) → let r = rem binary64 x tau in num r * 2 ^ 26 < den r → sine x ≡ r
unfolding sine_at
sine_small nan t h = absurd t
sine_small (inf s) t h = absurd t
sine_small (fin s m e) t h = rw (sine_is s m e) (at_remainder (λ (r : Float). num r * 2 ^ 26 < den r → sine_at s r ≡ r) s m e same h)
  where
    same : (k : ℕ) (i : ℤ) → T (fits binary64 (fin s k i)) → k * up i * 2 ^ 47 ≤ 884279719003555 * down i → k * up i * 2 ^ 26 < down i → sine_at s (fin s k i) ≡ fin s k i
    same k i fit small h = rw (lt-leb (2 ^ 35) (units (fin s k i)) (few s k i (2 ^ 35) fit small (omega arith))) refl

pub cosine_small : (x : Float) → T (finite x) → let r = rem binary64 x tau in num r * 2 ^ 27 < den r → cosine x ≡ of_bits binary64 0x3ff0000000000000
unfolding cosine_at of_bits of_fields odd count_trailing_zeros
cosine_small nan t h = absurd t
cosine_small (inf s) t h = absurd t
cosine_small (fin s m e) t h = rw (cosine_is s m e) (at_remainder (λ (r : Float). num r * 2 ^ 27 < den r → cosine_at r ≡ fin false 1 (pos 0)) s m e one h)
  where
    one : (k : ℕ) (i : ℤ) → T (fits binary64 (fin s k i)) → k * up i * 2 ^ 47 ≤ 884279719003555 * down i → k * up i * 2 ^ 27 < down i → cosine_at (fin s k i) ≡ fin false 1 (pos 0)
    one k i fit small h = rw (lt-leb (2 ^ 34) (units (fin s k i)) (few s k i (2 ^ 34) fit small (omega arith))) refl

-- ---- "Sine and cosine of NaN or an infinity [..] are the NaN above"
pub sine_nan : sine nan ≡ nan
unfolding sine rem units size_of lt neg mul to_unsigned of_bits of_fields odd count_trailing_zeros
sine_nan = refl

pub sine_inf : (s : Bool) → sine (inf s) ≡ nan
unfolding sine rem units size_of lt neg mul to_unsigned of_bits of_fields odd count_trailing_zeros
sine_inf s = refl

pub cosine_nan : cosine nan ≡ nan
unfolding cosine rem units size_of lt eq neg mul to_unsigned of_bits of_fields odd count_trailing_zeros
cosine_nan = refl

pub cosine_inf : (s : Bool) → cosine (inf s) ≡ nan
unfolding cosine rem units size_of lt eq neg mul to_unsigned of_bits of_fields odd count_trailing_zeros
cosine_inf s = refl

-- ---- "Sine of -x is minus sine of x."
sign_out : (s : Bool) (k : ℕ) (i : ℤ) → units (fin (not s) k i) ≡ units (fin s k i) → sine_at (not s) (fin (not s) k i) ≡ neg (sine_at s (fin s k i))
unfolding sine_at neg
sign_out s k i e = rw e (go (leb (2 ^ 35) (units (fin s k i))))
  where
    go : (b : Bool) → cond b (float (sine_units (units (fin s k i))) (not s)) (fin (not s) k i) ≡ neg (cond b (float (sine_units (units (fin s k i))) s) (fin s k i))
    go true = float_odd (sine_units (units (fin s k i))) s
    go false = refl

pub sine_odd : (x : Float) → sine (neg x) ≡ neg (sine x)
unfolding neg signed
sine_odd nan = sine_nan ∙ sym (ap (λ (y : Float). neg y) sine_nan)
sine_odd (inf s) = sine_inf (not s) ∙ sym (ap (λ (y : Float). neg y) (sine_inf s))
sine_odd (fin s m e) =
    let a = remainder false m e in
    let r : (t : Bool) → rem binary64 (fin t m e) tau ≡ fin t a.m a.e = λ t. rem_is t a in
    let n : (t : Bool) → units (fin t a.m a.e) ≡ units (fin false a.m a.e) = λ t. units-signed t a.m a.e a.fit a.small in
    sine_is (not s) m e
    ∙ ap (λ (y : Float). sine_at (not s) y) (r (not s))
    ∙ sign_out s a.m a.e (n (not s) ∙ sym (n s))
    ∙ sym (ap (λ (y : Float). neg y) (sine_is s m e ∙ ap (λ (y : Float). sine_at s y) (r s)))
  where
    rem_is : (t : Bool) (a : Remainder false (rem binary64 (fin false m e) tau)) → rem binary64 (fin t m e) tau ≡ fin t a.m a.e
    rem_is t a = rem_signed t m e ∙ ap (λ (y : Float). signed t y) a.is
