-- Where x is above 0 and y / x is below 2 ^ -26 in size, y / x is the arctangent, for every y and x, and has the sign of y.
use Rattle.std.proofs.Common.{◌≡◌, ℕ, zero as nought, suc, ◌*◌, ◌^◌, ◌<◌, Bool, true, false, cond, ◌&&◌, T, ltb, ℤ, pos, sym, refl, ap, ◌∙◌, true≢false, zero-lt-suc, mul-pos, arith, lit<}
use lib.Count.{count_trailing_zeros}
use lib.Dec.{eqb-suc-zero}
use lib.Ieee.{Float, nan, inf, fin, binary64, unlike, up, down, fits, of_bits, of_fields, odd, size, span, climb, units, round, neg, div, lt}
use lib.Ieee.Fits.{up_pos, round_is}
use lib.Ieee.Order.{drop, kept}
use lib.Ieee.Scale.{round_same}
use Rattle.laws.specs.Literal.{zero}
use Rattle.fixed.specs.Size.{size_of}
use Rattle.laws.specs.Kind.{negative}
use Rattle.laws.proofs.SignBit.{unlike_false}
use Rattle.laws.proofs.Kind.{not-less, zero-at}
use Rattle.arctan.specs.Rule.{tiny, slight, arctangent}
use Rattle.arctan.specs.AnnexF.{zero_of}
use Rattle.arctan.specs.Slight.{SlightQuotient}
use Rattle.arctan.proofs.Cases.{arctan_slight}
use Rattle.arctan.proofs.AnnexF.{annex_f}

-- ---- the two parts of the test
over : (a b : Bool) → (a && b) ≡ true → (a ≡ true) × (b ≡ true)
over true b e = (refl, e)
over false b e = absurd (true≢false (sym e))

-- ---- a rounded fraction has the sign that it is given
negative_odd : (d : ℕ) (s : Bool) (q k l : ℕ) → negative (odd d s q k l) ≡ s
unfolding odd
negative_odd d s nought k l = refl
negative_odd d s (suc q) k l = refl

negative-cond : (b s : Bool) (x : Float) → negative x ≡ s → negative (cond b x (inf s)) ≡ s
negative-cond true s x e = e
negative-cond false s x e = refl

negative-units : (s : Bool) (q k : ℕ) → negative (units binary64 s q k) ≡ s
unfolding units
negative-units s q k = negative-cond (ltb (q * 2 ^ k) (2 ^ 2098)) s (odd 54 s q k 1074) (negative_odd 54 s q k 1074)

negative-round : (s : Bool) (a b : ℕ) → negative (round binary64 s a b) ≡ s
negative-round s a b = rw (round_is binary64 s a b) (negative-units s (kept 53 (a * 2 ^ 1074) b) (drop 53 (a * 2 ^ 1074) b))

-- ---- 0 / x is 0, with the sign of the 0
zero-round : (s : Bool) → round binary64 s 0 1 ≡ zero_of s
unfolding round size span climb units odd
zero-round true = refl
zero-round false = refl

div_some : (s t : Bool) (m n : ℕ) (e d : ℤ) → div binary64 (fin s m e) (fin t (suc n) d) ≡ round binary64 (unlike s t) (m * up e * down d) (suc n * up d * down e)
unfolding div
div_some s t m n e d = rw (eqb-suc-zero n) refl

zero-over : (s : Bool) (n : ℕ) (d : ℤ) → div binary64 (zero_of s) (fin false (suc n) d) ≡ zero_of s
zero-over s n d =
    let B : 0 < suc n * up d * 1 = mul-pos (mul-pos (zero-lt-suc n) (up_pos d)) (lit< tt) in
    div_some s false 0 n (pos 0) d
    ∙ (ap (λ (t : Bool). round binary64 t (0 * 1 * down d) (suc n * up d * 1)) (unlike_false s)
    ∙ (round_same binary64 s (0 * 1 * down d) (suc n * up d * 1) 0 1 B (lit< tt) (none (down d) (suc n * up d * 1)) ∙ zero-round s))
  where
    none : (d b : ℕ) → 0 * 1 * d * 1 ≡ 0 * b
    none d b = omega arith

over_infinity : (s : Bool) (m : ℕ) (e : ℤ) → div binary64 (fin s m e) (inf false) ≡ zero_of s
unfolding div
over_infinity true m e = refl
over_infinity false m e = refl

-- ---- what a slight quotient is not
no_nan : lt (size_of nan) tiny ≡ false
unfolding lt size_of
no_nan = refl

no_infinity : (s : Bool) → lt (size_of (inf s)) tiny ≡ false
unfolding lt neg of_bits of_fields odd count_trailing_zeros size_of
no_infinity true = refl
no_infinity false = refl

-- its x: a number above 0
pub data Above : Float → Type 0 where
  far : Above (inf false)
  some : (n : ℕ) (d : ℤ) → Above (fin false (suc n) d)

above : (x : Float) → lt zero x ≡ true → Above x
unfolding lt of_bits of_fields odd
above nan h = absurd (true≢false (sym h))
above (inf true) h = absurd (true≢false (sym h))
above (inf false) h = far
above (fin true n d) h = absurd (true≢false (sym h))
above (fin false nought d) h = absurd (true≢false (sym h ∙ not-less (0 * 1 * down d) (0 * up d * 1) (omega arith)))
above (fin false (suc n) d) h = some n d

-- its y: a finite number
pub data Finite : Float → Type 0 where
  finite : (s : Bool) (m : ℕ) (e : ℤ) → Finite (fin s m e)

infinite_over : (s : Bool) {x : Float} → Above x → lt (size_of (div binary64 (inf s) x)) tiny ≡ false
unfolding div
infinite_over s far = no_nan
infinite_over s (some n d) = no_infinity (unlike s false)

slight_finite : (y : Float) {x : Float} → Above x → lt (size_of (div binary64 y x)) tiny ≡ true → Finite y
unfolding div
slight_finite nan a h = absurd (true≢false (sym h ∙ no_nan))
slight_finite (inf s) a h = absurd (true≢false (sym h ∙ infinite_over s a))
slight_finite (fin s m e) a h = finite s m e

sign_of : {y x : Float} → Finite y → Above x → negative (div binary64 y x) ≡ negative y
sign_of (finite s m e) far = rw (over_infinity s m e) refl
sign_of (finite s m e) (some n d) = rw (div_some s false m n e d) (negative-round (unlike s false) (m * up e * down d) (suc n * up d * down e) ∙ unlike_false s)

quotient_of : {y x : Float} → Finite y → Above x → T (fits binary64 y) → slight y x ≡ true → arctangent y x ≡ div binary64 y x
unfolding lt of_bits of_fields odd
quotient_of (finite s nought e) far f h = rw (zero-at s e f) (annex_f.zero_right s (inf false) refl ∙ sym (over_infinity s 0 (pos 0)))
quotient_of (finite s nought e) (some n d) f h =
    rw (zero-at s e f) (annex_f.zero_right s (fin false (suc n) d) (over _ _ h).0 ∙ sym (zero-over s n d))
quotient_of (finite s (suc m) e) far f h = annex_f.far_right s m e ∙ sym (over_infinity s (suc m) e)
quotient_of (finite s (suc m) e) (some n d) f h = arctan_slight (fin s (suc m) e) (fin false (suc n) d) refl h

pub slight_quotient : SlightQuotient arctangent
slight_quotient = record { is = is; sign = sign }
  where
    parts : (y x : Float) → slight y x ≡ true → (lt zero x ≡ true) × (lt (size_of (div binary64 y x)) tiny ≡ true)
    parts y x h = over (lt zero x) (lt (size_of (div binary64 y x)) tiny) h

    is : (y x : Float) → T (fits binary64 y) → T (fits binary64 x) → slight y x ≡ true → arctangent y x ≡ div binary64 y x
    is y x f g h = let p = parts y x h in let a = above x p.0 in quotient_of (slight_finite y a p.1) a f h

    sign : (y x : Float) → slight y x ≡ true → negative (div binary64 y x) ≡ negative y
    sign y x h = let p = parts y x h in let a = above x p.0 in sign_of (slight_finite y a p.1) a
