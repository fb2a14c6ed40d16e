-- The rule keeps Annex F row by row, and its constants are 01's.
use Rattle.std.proofs.Math.Bool.{and-false}
use Rattle.std.proofs.Common.{◌≡◌, zero as nought, suc, ◌+◌, ◌*◌, Bool, true, false, cond, ◌||◌, sym, refl, ◌∙◌, true≢false, arith}
use lib.Count.{count_trailing_zeros}
use lib.Ieee.{Float, nan, inf, fin, up, down, is_nan, of_bits, of_fields, odd, size, span, climb, round, units, neg, mul, div, lt}
use Rattle.laws.specs.Literal.{zero}
use Rattle.arctan.specs.AnnexF.{zero_of, signed, AnnexF, Constants}
use Rattle.laws.specs.Kind.{negative, is_infinite, is_zero, is_ordinary}
use Rattle.laws.proofs.Kind.{not-less}
use Rattle.scalar.specs.Angles.{pi, frac_pi2}
use Rattle.arctan.specs.Rule.{edge_size, edge_of, arctangent}
use Rattle.arctan.proofs.Cases.{edge_number, arctan_edge}

pub constants : Constants
unfolding div mul round size span climb units of_bits of_fields odd count_trailing_zeros
constants = record { half = refl; quarter = refl; digits = refl; exact = refl; thrice = refl }

-- ---- what a comparison with 0 says of the sign bit
below_is : (x : Float) → lt x zero ≡ true → (is_nan x ≡ false) × ((negative x ≡ true) × (is_zero x ≡ false))
unfolding lt is_nan of_bits of_fields odd
below_is nan h = absurd (true≢false (sym h))
below_is (inf s) h = (refl, (h, refl))
below_is (fin true nought e) h = absurd (true≢false (sym h ∙ not-less 0 (0 * up e * 1 + 0 * 1 * down e) (omega arith)))
below_is (fin true (suc m) e) h = (refl, (refl, refl))
below_is (fin false m e) h = absurd (true≢false (sym h ∙ not-less (m * up e * 1) (0 * 1 * down e) (omega arith)))

above_is : (x : Float) → lt zero x ≡ true → (is_nan x ≡ false) × ((negative x ≡ false) × (is_zero x ≡ false))
unfolding lt is_nan of_bits of_fields odd
above_is nan h = absurd (true≢false (sym h))
above_is (inf true) h = absurd (true≢false (sym h))
above_is (inf false) h = (refl, (refl, refl))
above_is (fin true m e) h = absurd (true≢false (sym h))
above_is (fin false nought e) h = absurd (true≢false (sym h ∙ not-less (0 * 1 * down e) (0 * up e * 1) (omega arith)))
above_is (fin false (suc m) e) h = (refl, (refl, refl))

-- ---- a zero beside x
zero_beside : (s : Bool) (x : Float) → is_nan x ≡ false → arctangent (zero_of s) x ≡ signed s (cond (negative x) pi zero)
unfolding edge_size is_nan
zero_beside s x e = arctan_edge (zero_of s) x refl ∙ (edge_number (zero_of s) x e ∙ level (is_infinite x) (cond (negative x) pi zero))
  where
    level : (b : Bool) (a : Float) → cond s (neg (cond (b || true) a frac_pi2)) (cond (b || true) a frac_pi2) ≡ signed s a
    level true a = refl
    level false a = refl

-- y above or below a zero
beside_zero : (t : Bool) (y : Float) → is_nan y ≡ false → is_zero y ≡ false → arctangent y (zero_of t) ≡ signed (negative y) frac_pi2
unfolding edge_size is_nan
beside_zero t y e z =
    arctan_edge y (zero_of t) (and-false (is_ordinary y))
    ∙ (edge_number y (zero_of t) (rw e refl) ∙ rw z (steep (is_infinite y)))
  where
    steep : (b : Bool) → cond (negative y) (neg (cond b frac_pi2 frac_pi2)) (cond b frac_pi2 frac_pi2) ≡ signed (negative y) frac_pi2
    steep true = refl
    steep false = refl

pub annex_f : AnnexF arctangent
unfolding arctangent edge_of edge_size is_nan neg of_bits of_fields odd
annex_f = record {
  zero_minus_zero = λ s. zero_beside s (zero_of true) refl;
  zero_plus_zero = λ s. zero_beside s (zero_of false) refl ∙ plus s;
  zero_left = λ s x h. let b = below_is x h in zero_beside s x b.0 ∙ rw b.1.0 refl;
  zero_right = λ s x h. let b = above_is x h in zero_beside s x b.0 ∙ (rw b.1.0 refl ∙ plus s);
  below_zero = λ t y h. let b = below_is y h in beside_zero t y b.0 b.1.1 ∙ rw b.1.0 refl;
  above_zero = λ t y h. let b = above_is y h in beside_zero t y b.0 b.1.1 ∙ rw b.1.0 refl;
  far_left = λ s m e. refl;
  far_right = λ s m e. plus s;
  far_up = λ s t n d. refl;
  corner_left = λ s. refl;
  corner_right = λ s. refl;
  nan_y = λ x. refl;
  nan_x = only-nan;
}
  where
    plus : (s : Bool) → signed s zero ≡ zero_of s
    plus true = refl
    plus false = refl

    only-nan : (y : Float) → arctangent y nan ≡ nan
    only-nan nan = refl
    only-nan (inf s) = refl
    only-nan (fin s nought e) = refl
    only-nan (fin s (suc m) e) = refl
