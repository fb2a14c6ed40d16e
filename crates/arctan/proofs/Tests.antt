-- One test of the smaller and the larger size says that neither number is 0, an infinity or a NaN.
use Rattle.std.proofs.Math.Bool.{and-false}
use Rattle.std.proofs.Common.{◌≡◌, ℕ, zero as nought, suc, ◌+◌, ◌*◌, ◌^◌, ◌≤◌, Bool, true, false, cond, not, ◌&&◌, ◌||◌, T, eqb, ltb, ℤ, pos, sym, refl, ◌∙◌, subst, ⊎_elim, true≢false, eq-or-lt_of_le, arith, nltb→le}
use lib.Count.{count_trailing_zeros}
use lib.Dec.{eqb_refl}
use lib.Ieee.{Float, nan, inf, fin, binary64, up, down, fits, of_bits, of_fields, odd, neg, lt, le, eq}
use lib.Ieee.Bits.{is_true}
use Rattle.laws.specs.Literal.{zero, largest}
use Rattle.laws.specs.Kind.{is_ordinary}
use Rattle.laws.proofs.Largest.{at-most-largest}
use Rattle.laws.proofs.Kind.{not-less, less, zero-at, some, below_zero, not_below_zero}
use Rattle.fixed.specs.Size.{size_of}
use Rattle.arctan.specs.Rule.{smaller, larger}

abbrev pub tested : Float → Float → Bool
tested y x = lt zero (smaller y x) && le (larger y x) largest

lt_nan : (z : Float) → lt z nan ≡ false
unfolding lt
lt_nan nan = refl
lt_nan (inf s) = refl
lt_nan (fin s m e) = refl

lt_from_infinity : (z : Float) → lt (inf false) z ≡ false
unfolding lt
lt_from_infinity nan = refl
lt_from_infinity (inf s) = refl
lt_from_infinity (fin s m e) = refl

size_nan : size_of nan ≡ nan
unfolding size_of lt
size_nan = refl

size_infinity : (s : Bool) → size_of (inf s) ≡ inf false
unfolding size_of lt neg of_bits of_fields odd
size_infinity true = refl
size_infinity false = refl

size_zero : (s : Bool) → size_of (fin s nought (pos 0)) ≡ fin s nought (pos 0)
unfolding size_of lt neg of_bits of_fields odd
size_zero true = refl
size_zero false = refl

size_some : (s : Bool) (m : ℕ) (e : ℤ) → size_of (fin s (suc m) e) ≡ fin false (suc m) e
unfolding size_of neg
size_some true m e = rw (below_zero m e) refl
size_some false m e = rw (not_below_zero (suc m) e) refl

-- a NaN, where it is the smaller or the larger
nan_above : (y : Float) → tested y nan ≡ false
unfolding le lt eq size_of
nan_above y = and-false (lt zero (size_of y))

nan_beside : (x : Float) → tested nan x ≡ false
unfolding lt of_bits of_fields odd
nan_beside x = rw (size_nan, lt_nan (size_of x)) refl

-- an infinity is the larger
not_finite : le (inf false) largest ≡ false
unfolding le lt eq of_bits of_fields odd count_trailing_zeros
not_finite = refl

far_beside : (s : Bool) (y : Float) → tested y (inf s) ≡ false
far_beside s y = rw (size_infinity s, lt_from_infinity (size_of y), not_finite) (and-false (lt zero (size_of y)))

finite_below : (s : Bool) (m : ℕ) (e : ℤ) → lt (fin s m e) (inf false) ≡ true
unfolding lt
finite_below s m e = refl

size_finite : (b t : Bool) (n : ℕ) (d : ℤ) → lt (cond b (neg (fin t n d)) (fin t n d)) (inf false) ≡ true
unfolding lt neg
size_finite true t n d = refl
size_finite false t n d = refl

far_above : (s t : Bool) (n : ℕ) (d : ℤ) → tested (inf s) (fin t n d) ≡ false
unfolding size_of
far_above s t n d = rw (size_infinity s, size_finite (lt (fin t n d) zero) t n d, not_finite) (and-false (lt zero (size_of (fin t n d))))

-- a zero is the smaller
zero-is_none : (s : Bool) → lt zero (fin s nought (pos 0)) ≡ false
unfolding lt of_bits of_fields odd
zero-is_none true = refl
zero-is_none false = refl

under-zero : (z : Float) (s : Bool) → lt z (fin s nought (pos 0)) ≡ true → lt zero z ≡ false
unfolding lt of_bits of_fields odd
under-zero nan s h = absurd (true≢false (sym h))
under-zero (inf true) s h = refl
under-zero (inf false) s h = absurd (true≢false (sym h))
under-zero (fin true n d) s h = refl
under-zero (fin false n d) true h = absurd (true≢false (sym h))
under-zero (fin false n d) false h = absurd (true≢false (sym h ∙ not-less (n * up d * 1) (0 * 1 * down d) (omega arith)))

not-over-zero : (z : Float) (s : Bool) → lt (fin s nought (pos 0)) z ≡ false → lt zero z ≡ false
unfolding lt of_bits of_fields odd
not-over-zero nan s h = refl
not-over-zero (inf t) s h = h
not-over-zero (fin true n d) s h = refl
not-over-zero (fin false n d) false h = h
not-over-zero (fin false n d) true h =
    let i : 0 * 1 * down d + n * up d * 1 ≤ 0 = nltb→le 0 (0 * 1 * down d + n * up d * 1) (subst (λ (b : Bool). T (not b)) (sym h) tt) in
    not-less (0 * 1 * down d) (n * up d * 1) (omega arith)

zero_above : (s : Bool) (x : Float) → tested (fin s nought (pos 0)) x ≡ false
zero_above s x = rw (size_zero s) (go (lt (size_of x) (fin s nought (pos 0))) refl)
  where
    go : (b : Bool) → lt (size_of x) (fin s nought (pos 0)) ≡ b → (lt zero (cond b (size_of x) (fin s nought (pos 0))) && le (cond b (fin s nought (pos 0)) (size_of x)) largest) ≡ false
    go true e = rw (under-zero (size_of x) s e) refl
    go false e = rw (zero-is_none s) refl

zero_beside : (y : Float) (s : Bool) → tested y (fin s nought (pos 0)) ≡ false
zero_beside y s = rw (size_zero s) (go (lt (fin s nought (pos 0)) (size_of y)) refl)
  where
    go : (b : Bool) → lt (fin s nought (pos 0)) (size_of y) ≡ b → (lt zero (cond b (fin s nought (pos 0)) (size_of y)) && le (cond b (size_of y) (fin s nought (pos 0))) largest) ≡ false
    go true e = rw (zero-is_none s) refl
    go false e = rw (not-over-zero (size_of y) s e) refl

-- neither
over_zero : (m : ℕ) (e : ℤ) → lt zero (fin false (suc m) e) ≡ true
unfolding lt of_bits of_fields odd
over_zero m e = let p = some m e in less (0 * 1 * down e) (suc m * up e * 1) (omega arith)

not_far : (s : Bool) (m : ℕ) (e : ℤ) → T (fits binary64 (fin s (suc m) e)) → le (fin false (suc m) e) largest ≡ true
unfolding le lt eq of_bits of_fields odd count_trailing_zeros
not_far s m e f = at_most (suc m * up e * 1) (9007199254740991 * 2 ^ 971 * down e) (at-most-largest s m e f)
  where
    at_most : (a b : ℕ) → a ≤ b → (ltb a b || (eqb a b && (true || eqb a 0))) ≡ true
    at_most a b h = ⊎_elim (λ e. rw (e, not-less b b (omega arith), is_true (eqb b b) (eqb_refl b)) refl) (λ l. rw (less a b l) refl) (eq-or-lt_of_le h)

both_some : (s t : Bool) (m n : ℕ) (e d : ℤ) → T (fits binary64 (fin s (suc m) e)) → T (fits binary64 (fin t (suc n) d)) → tested (fin s (suc m) e) (fin t (suc n) d) ≡ true
both_some s t m n e d f g = rw (size_some s m e, size_some t n d) (go (lt (fin false (suc n) d) (fin false (suc m) e)))
  where
    go : (b : Bool) → (lt zero (cond b (fin false (suc n) d) (fin false (suc m) e)) && le (cond b (fin false (suc m) e) (fin false (suc n) d)) largest) ≡ true
    go true = rw (over_zero n d, not_far s m e f) refl
    go false = rw (over_zero m e, not_far t n d g) refl

-- THE TEST of the smaller and the larger size says that both numbers are ordinary
pub tested_is : (y x : Float) → T (fits binary64 y) → T (fits binary64 x) → tested y x ≡ (is_ordinary y && is_ordinary x)
tested_is nan x f g = nan_beside x
tested_is (inf s) nan f g = nan_above (inf s)
tested_is (inf s) (inf t) f g = far_beside t (inf s)
tested_is (inf s) (fin t n d) f g = far_above s t n d
tested_is (fin s nought e) x f g = rw (zero-at s e f) (zero_above s x)
tested_is (fin s (suc m) e) nan f g = nan_above (fin s (suc m) e)
tested_is (fin s (suc m) e) (inf t) f g = far_beside t (fin s (suc m) e)
tested_is (fin s (suc m) e) (fin t nought d) f g = rw (zero-at t d g) (zero_beside (fin s (suc m) e) t)
tested_is (fin s (suc m) e) (fin t (suc n) d) f g = both_some s t m n e d f g
