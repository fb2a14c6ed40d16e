-- Three values: if the outer two bracket, the first two do or the last two do.
use mathlib.Core.Path.{◌≡◌}
use mathlib.Core.Logic.{◌⊎◌, inl, inr}
use mathlib.Core.Bool.{not, ◌||◌}
use lib.Dec.{T}
use lib.Ieee.{Float, binary64, mul, le, of_bits}
use Rattle.laws.specs.Sign.{Sign, negative, none, positive, is_negative, is_none, is_positive, sign, times}
use Rattle.laws.specs.Tame.{tame}
use Rattle.laws.proofs.Constants.{zero_bits}
use Rattle.laws.proofs.Order.{finite_number}
use Rattle.laws.proofs.Sign.{tame_finite, sign-mul, mul-number, lt-zero, le-zero, eq-zero}
use Rattle.hunt.specs.Cells.{bracket}
use Rattle.hunt_refine.specs.Promise.{straddles}

-- ---- the tests, as signs
pub bracket-sign : (a b : Float) → T (tame a) → T (tame b) → bracket a b ≡ (is_none (sign a) || is_negative (times (sign a) (sign b)))
unfolding bracket
bracket-sign a b p q = rw (zero_bits, eq-zero a (finite_number a (tame_finite a p)), lt-zero (mul binary64 a b), sign-mul a b p q)

pub straddles-sign : (a b : Float) → T (tame a) → T (tame b) → straddles a b ≡ ((is_none (sign a) || is_none (sign b)) || is_negative (times (sign a) (sign b)))
straddles-sign a b p q = rw (zero_bits, eq-zero a (finite_number a (tame_finite a p)), eq-zero b (finite_number b (tame_finite b q)), lt-zero (mul binary64 a b), sign-mul a b p q)

pub product_sign : (a b : Float) → T (tame a) → T (tame b) → le (mul binary64 a b) (of_bits binary64 0) ≡ not (is_positive (times (sign a) (sign b)))
product_sign a b p q = rw (zero_bits, le-zero (mul binary64 a b) (mul-number a b p q), sign-mul a b p q)

-- ---- three signs
between : (s t u : Sign) → T (is_none s || is_negative (times s u)) → T (is_none s || is_negative (times s t)) ⊎ T (is_none t || is_negative (times t u))
between none t u h = inl tt
between negative none u h = inr tt
between negative positive u h = inl tt
between negative negative u h = inr h
between positive none u h = inr tt
between positive negative u h = inl tt
between positive positive u h = inr h

pub three : (a b c : Float) → T (tame a) → T (tame b) → T (tame c) → T (bracket a c) → T (bracket a b) ⊎ T (bracket b c)
three a b c p q r h = rw (bracket-sign a b p q, bracket-sign b c q r) (between (sign a) (sign b) (sign c) (rw (bracket-sign a c p r) at h))

-- what brackets straddles
signs_straddle : (s t : Sign) → T (is_none s || is_negative (times s t)) → T ((is_none s || is_none t) || is_negative (times s t))
signs_straddle none t h = tt
signs_straddle negative negative h = h
signs_straddle negative none h = tt
signs_straddle negative positive h = tt
signs_straddle positive negative h = tt
signs_straddle positive none h = tt
signs_straddle positive positive h = h

pub bracket-straddles : (a b : Float) → T (tame a) → T (tame b) → T (bracket a b) → T (straddles a b)
bracket-straddles a b p q h = rw (straddles-sign a b p q) (signs_straddle (sign a) (sign b) (rw (bracket-sign a b p q) at h))
