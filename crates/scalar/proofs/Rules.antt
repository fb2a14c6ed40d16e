-- What the definitions of specs/ come to, rule by rule, so that they can be believed without being worked out.
use mathlib.Core.Path.{◌≡◌, refl, sym, ap, ◌∙◌, subst}
use mathlib.Core.Logic.{◌⊎◌, inl, inr}
use mathlib.Core.Bool.{Bool, true, false, not, ◌||◌, cond, true≢false}
use Prim.Native.Nat.{ℕ, ◌%◌, ◌^◌, ◌<◌}
use native.Mathlib.Omega.{arith}
use lib.IntN.{pos}
use lib.Dec.{T}
use lib.Ieee.{Float, nan, inf, fin, binary64, is_nan, lt, le, neg, div, fits, of_bits, to_bits}
use lib.Ieee.Bits.{is_true, is_false, of_bits-to_bits, to_bits-of_bits, nan_bits_is}
use Rattle.laws.specs.Number.{number}
use Rattle.laws.specs.Size.{abs}
use Rattle.laws.proofs.Logic.{not_true}
use Rattle.laws.proofs.Order.{lt→le, le_refl, lt-or-le, not-both, lt-neg}
use Rattle.laws.proofs.Tests.{le_test}
use Rattle.laws.proofs.SignBit.{neg-neg}
use Rattle.laws.proofs.Pattern.{of_bits_abs, abs_pattern}
use Rattle.scalar.specs.Angles.{tau, pi, frac_pi2}
use Rattle.scalar.specs.Extremes.{minimum, maximum}
use Rattle.scalar.specs.Clamp.{no_range, clamp}

-- ---- the one NaN

pub nan_is : (x : Float) → is_nan x ≡ true → x ≡ nan
unfolding is_nan
nan_is nan h = refl
nan_is (inf s) h = absurd (true≢false (sym h))
nan_is (fin s m e) h = absurd (true≢false (sym h))

pub nan_to_bits : (x : Float) → is_nan x ≡ true → to_bits binary64 x ≡ 0x7ff8000000000000
unfolding is_nan to_bits
nan_to_bits nan h = refl
nan_to_bits (inf s) h = absurd (true≢false (sym h))
nan_to_bits (fin s m e) h = absurd (true≢false (sym h))

-- ---- a NaN is below nothing, and nothing below it

nan_lt : (x : Float) → lt nan x ≡ false
unfolding lt
nan_lt nan = refl
nan_lt (inf s) = refl
nan_lt (fin s m e) = refl

lt_nan : (x : Float) → lt x nan ≡ false
unfolding lt
lt_nan nan = refl
lt_nan (inf s) = refl
lt_nan (fin s m e) = refl

-- ---- clamp

range_test : (low high : Float) (b : Bool) → le low high ≡ b → no_range low high ≡ not b
range_test low high b h = back (no_range low high) b (sym h ∙ le_test low high)
  where
    back : (a b : Bool) → b ≡ not a → a ≡ not b
    back true true e = e
    back true false e = refl
    back false true e = refl
    back false false e = e

-- where the ends are a range, the value goes by the two tests alone: a NaN passes neither
pub clamp_range : (x low high : Float) → le low high ≡ true → clamp x low high ≡ cond (lt x low) low (cond (lt high x) high x)
unfolding clamp is_nan lt
clamp_range nan low high h = sym (ap (λ (b : Bool). cond b high nan) (lt_nan high))
clamp_range (inf s) low high h = ap (λ (b : Bool). cond b nan (cond (lt (inf s) low) low (cond (lt high (inf s)) high (inf s)))) (range_test low high true h)
clamp_range (fin s m e) low high h = ap (λ (b : Bool). cond b nan (cond (lt (fin s m e) low) low (cond (lt high (fin s m e)) high (fin s m e)))) (range_test low high true h)

pub clamp_no_range : (x low high : Float) → le low high ≡ false → clamp x low high ≡ nan
unfolding clamp
clamp_no_range x low high h = go (is_nan x) (no_range low high) (range_test low high false h)
  where
    go : (a b : Bool) → b ≡ true → cond (a || b) nan (cond (lt x low) low (cond (lt high x) high x)) ≡ nan
    go true b e = refl
    go false b e = ap (λ (c : Bool). cond c nan (cond (lt x low) low (cond (lt high x) high x))) e

pub clamp_nan : (low high : Float) → clamp nan low high ≡ nan
unfolding clamp is_nan
clamp_nan low high = refl

-- what lies in the range is given back as it is, a zero with its sign
pub clamp_inside : (x low high : Float) → T (le low high) → T (le low x) → T (le x high) → clamp x low high ≡ x
clamp_inside x low high r a b =
    clamp_range x low high (is_true (le low high) r)
    ∙ rw (not_true (lt x low) (λ t. not-both x low t a), not_true (lt high x) (λ t. not-both high x t b)) refl

-- ---- minimum and maximum

-- beside a NaN the other, and of two NaNs the NaN
pub minimum_nan : (x : Float) → (minimum nan x ≡ x) × (minimum x nan ≡ x)
unfolding minimum is_nan
minimum_nan nan = (refl, refl)
minimum_nan (inf s) = (refl, refl)
minimum_nan (fin s m e) = (refl, refl)

-- As the code tests, for the minimum and the maximum alike: where the second is a NaN the first is given, and else one comparison decides, which no NaN passes.
beside_nan : (x y z : Float) → is_nan y ≡ true → cond (is_nan x) y (cond (is_nan y) x z) ≡ x
unfolding is_nan
beside_nan nan nan z h = refl
beside_nan (inf s) nan z h = refl
beside_nan (fin s m e) nan z h = refl
beside_nan x (inf s) z h = absurd (true≢false (sym h))
beside_nan x (fin s m e) z h = absurd (true≢false (sym h))

by_comparison : (x y : Float) (b : Bool) → is_nan y ≡ false → (x ≡ nan → b ≡ false) → cond (is_nan x) y (cond (is_nan y) x (cond b x y)) ≡ cond b x y
unfolding is_nan
by_comparison nan y b h n = ap (λ (c : Bool). cond c nan y) (sym (n refl))
by_comparison (inf s) y b h n = ap (λ (c : Bool). cond c (inf s) (cond b (inf s) y)) h
by_comparison (fin s m e) y b h n = ap (λ (c : Bool). cond c (fin s m e) (cond b (fin s m e) y)) h

pub minimum_beside_nan : (x y : Float) → is_nan y ≡ true → minimum x y ≡ x
unfolding minimum
minimum_beside_nan x y h = beside_nan x y (cond (lt x y) x y) h

pub minimum_number : (x y : Float) → is_nan y ≡ false → minimum x y ≡ cond (lt x y) x y
unfolding minimum
minimum_number x y h = by_comparison x y (lt x y) h (λ e. ap (λ (z : Float). lt z y) e ∙ nan_lt y)

pub maximum_beside_nan : (x y : Float) → is_nan y ≡ true → maximum x y ≡ x
unfolding maximum
maximum_beside_nan x y h = beside_nan x y (cond (lt y x) x y) h

pub maximum_number : (x y : Float) → is_nan y ≡ false → maximum x y ≡ cond (lt y x) x y
unfolding maximum
maximum_number x y h = by_comparison x y (lt y x) h (λ e. ap (lt y) e ∙ lt_nan y)

-- of two zeros the second
pub minimum_zeros : (s t : Bool) → minimum (fin s 0 (pos 0)) (fin t 0 (pos 0)) ≡ fin t 0 (pos 0)
unfolding minimum is_nan lt
minimum_zeros true true = refl
minimum_zeros true false = refl
minimum_zeros false true = refl
minimum_zeros false false = refl

-- of two numbers one of the two, and no larger than either
pub record Least (x y m : Float) : Type 0 where
  pub one : (m ≡ x) ⊎ (m ≡ y)
  pub first : T (le m x)
  pub second : T (le m y)

pub minimum-least : (x y : Float) → T (number x) → T (number y) → Least x y (minimum x y)
unfolding minimum
minimum-least x y p q = rw (is_false (is_nan x) p, is_false (is_nan y) q) (go (lt x y) (lt→le x y) (lt-or-le x y p q))
  where
    go : (b : Bool) → (T b → T (le x y)) → T b ⊎ T (le y x) → Least x y (cond b x y)
    go true h k = record { one = inl refl; first = le_refl x p; second = h tt }
    go false h (inl t) = absurd t
    go false h (inr t) = record { one = inr refl; first = t; second = le_refl y q }

-- The maximum is the minimum with the signs turned round, so that what is said of the one is said of the other.
neg-cond : (b : Bool) (x y : Float) → cond b x y ≡ neg (cond b (neg x) (neg y))
neg-cond true x y = sym (neg-neg x)
neg-cond false x y = sym (neg-neg y)

neg_nan : (x : Float) → is_nan (neg x) ≡ is_nan x
unfolding is_nan neg
neg_nan nan = refl
neg_nan (inf s) = refl
neg_nan (fin s m e) = refl

pub maximum-minimum : (x y : Float) → maximum x y ≡ neg (minimum (neg x) (neg y))
unfolding minimum maximum
maximum-minimum x y =
    rw (neg_nan x, neg_nan y, lt-neg x y)
    (ap (cond (is_nan x) y) (ap (cond (is_nan y) x) (neg-cond (lt y x) x y) ∙ turned (is_nan y) x (cond (lt y x) (neg x) (neg y)))
    ∙ turned (is_nan x) y (cond (is_nan y) (neg x) (cond (lt y x) (neg x) (neg y))))
  where
    turned : (b : Bool) (x z : Float) → cond b x (neg z) ≡ neg (cond b (neg x) z)
    turned true x z = sym (neg-neg x)
    turned false x z = refl

-- ---- absolute value: the pattern of a number without its highest bit
pub abs_bits : (x : Float) → T (fits binary64 x) → T (number x) → to_bits binary64 (abs x) ≡ to_bits binary64 x % 2 ^ 63
abs_bits x f p =
    let b = to_bits binary64 x % 2 ^ 63 in
    let e : of_bits binary64 b ≡ abs x = of_bits_abs (to_bits binary64 x) ∙ ap abs (of_bits-to_bits binary64 x f) in
    sym (ap (to_bits binary64) e) ∙ to_bits-of_bits binary64 b (below (to_bits binary64 x)) (subst (λ (t : Bool). T (not t)) (nan_bits_is binary64 b) (abs_pattern x f p))
  where
    below : (n : ℕ) → n % 2 ^ 63 < 2 ^ 64
    below n = omega arith

-- ---- the constants: TAU / 2.0 and TAU / 4.0
pub pi-half : pi ≡ div binary64 tau (of_bits binary64 0x4000000000000000)
unfolding div of_bits
pi-half = refl

pub frac_pi2_quarter : frac_pi2 ≡ div binary64 tau (of_bits binary64 0x4010000000000000)
unfolding div of_bits
frac_pi2_quarter = refl
