-- The smaller size over the larger, rounded, is a number from 0 to 1.
use Rattle.std.proofs.Common.{◌≡◌, ℕ, zero as nought, suc, ◌+◌, ◌*◌, ◌<◌, ◌≤◌, Bool, true, false, cond, not, ◌&&◌, ◌||◌, T, eqb, ltb, ◌⊎◌, pos, sym, refl, ◌∙◌, subst, inl, inr, ⊎_elim, true≢false, le_of_lt, lt_irrefl, mul-le-mul_right, mul_assoc, mul_comm, mul-pos, zero-mul, arith, lit<, eqb→eq, ltb→lt, nltb→le}
use lib.Dec.{eqb-suc-zero}
use lib.Count.{count_trailing_zeros}
use lib.Ieee.{Float, nan, inf, fin, binary64, up, down, fits, of_bits, of_fields, odd, size, span, climb, units, round, div, lt, le, eq}
use lib.Ieee.Exact.{HasValue}
use lib.Ieee.Order.{round_mono}
use lib.Ieee.Fits.{down_pos, and_l, and_r, div-fits}
use lib.Ieee.Positive.{first_pos}
use Rattle.laws.specs.Literal.{zero, largest}
use Rattle.laws.specs.Units.{one, Off}
use Rattle.laws.proofs.Units.{round-off}
use Rattle.arctan.specs.Sizes.{InUnit}
use Rattle.fixed.specs.Size.{size_of}
use Rattle.arctan.specs.Rule.{steep_of, smaller, larger, ratio}
use Rattle.arctan.proofs.Tests.{tested}

-- ---- a finite number above 0
abbrev pub Positive : Float → Type 0
Positive nan = ⊥
Positive (inf s) = ⊥
Positive (fin true m e) = ⊥
Positive (fin false m e) = 0 < m * up e

below_largest : (s : Bool) → T (le (inf s) largest) → s ≡ true
unfolding le lt eq of_bits of_fields odd count_trailing_zeros
below_largest true h = refl
below_largest false h = absurd h

-- x is not above y
abbrev pub NotAbove : Float → Float → Type 0
NotAbove x y = (T (lt x y)) ⊎ (T (not (lt y x)))

largest-not : (s : Bool) → s ≡ false → T (le (inf s) largest) → ⊥
largest-not s e h = true≢false (sym (below_largest s h) ∙ e)

-- with x above 0, y finite and x not above y, both are
pub positives : (x y : Float) → T (lt zero x) → T (le y largest) → NotAbove x y → (Positive x) × (Positive y)
unfolding lt le eq of_bits of_fields odd
positives nan y h k n = absurd h
positives (inf true) y h k n = absurd h
positives (fin true m e) y h k n = absurd h
positives (inf false) nan h k n = absurd k
positives (inf false) (inf false) h k n = absurd (largest-not false refl k)
positives (inf false) (inf true) h k n = absurd (⊎_elim (λ x. x) (λ x. x) n)
positives (inf false) (fin t l d) h k n = absurd (⊎_elim (λ x. x) (λ x. x) n)
positives (fin false m e) nan h k n = absurd k
positives (fin false m e) (inf false) h k n = absurd (largest-not false refl k)
positives (fin false m e) (inf true) h k n = absurd (⊎_elim (λ x. x) (λ x. x) n)
positives (fin false m e) (fin true l d) h k n =
    let i = ltb→lt (0 * 1 * down e) (m * up e * 1) h in
    let p : 0 < m * up e = omega arith in
    let q = mul-pos p (down_pos d) in
    absurd (⊎_elim (λ x. x) (λ x. let j = nltb→le 0 (l * up d * down e + m * up e * down d) x in let z : ⊥ = omega arith in z) n)
positives (fin false m e) (fin false l d) h k n =
    let i = ltb→lt (0 * 1 * down e) (m * up e * 1) h in
    let p : 0 < m * up e = omega arith in
    let q = mul-pos p (down_pos d) in
    let j : m * up e * down d ≤ l * up d * down e =
    ⊎_elim (λ x. le_of_lt (ltb→lt (m * up e * down d) (l * up d * down e) x)) (λ x. nltb→le (l * up d * down e) (m * up e * down d) x) n in
    (p, first_pos (l * up d) (down e) (omega arith))

-- ---- the quotient of two such numbers, the smaller by the larger
pub one-round : round binary64 false 1 1 ≡ fin false 1 (pos 0)
unfolding round size span climb units odd count_trailing_zeros
one-round = refl

pub or_cases : (a b : Bool) → T (a || b) → (T a) ⊎ (T b)
or_cases true b h = inl tt
or_cases false b h = inr h

in_unit : (x : Float) (g : ℕ) → HasValue x false g one → T (le x (fin false 1 (pos 0))) → InUnit x
unfolding le lt eq
in_unit nan g v h = absurd v
in_unit (inf s) g v h = absurd v
in_unit (fin true m e) g v h = absurd (true≢false v.0)
in_unit (fin false m e) g v h =
    let a = m * up e * 1 in
    let b = 1 * 1 * down e in
    ⊎_elim (λ x. let i = ltb→lt a b x in omega arith) (λ x. let i = eqb→eq a b (and_l (eqb a b) (true || eqb a 0) x) in omega arith)
    (or_cases (ltb a b) (eqb a b && (true || eqb a 0)) h)

pub not-zero : (n u : ℕ) → 0 < n * u → eqb n 0 ≡ false
not-zero nought u h = absurd (lt_irrefl 0 (subst (λ (z : ℕ). 0 < z) (zero-mul u) h))
not-zero (suc n) u h = eqb-suc-zero n

quotient : (x y : Float) → Positive x → Positive y → NotAbove x y → InUnit (div binary64 x y)
unfolding div lt
quotient nan y p q h = absurd p
quotient (inf s) y p q h = absurd p
quotient (fin true m e) y p q h = absurd p
quotient (fin false m e) nan p q h = absurd q
quotient (fin false m e) (inf s) p q h = absurd q
quotient (fin false m e) (fin true n d) p q h = absurd q
quotient (fin false m e) (fin false n d) p q h =
    subst (λ (t : Bool). InUnit (cond t (cond (eqb m 0) nan (inf false)) (round binary64 false a b))) (sym (not-zero n (up d) q))
    (in_unit (round binary64 false a b) o.g o.value least)
  where
    a : ℕ
    a = m * up e * down d

    b : ℕ
    b = n * up d * down e

    B : 0 < b
    B = mul-pos q (down_pos e)

    a≤b : a ≤ b
    a≤b = ⊎_elim (λ x. le_of_lt (ltb→lt a b x)) (λ x. nltb→le b a x) h

    o : Off false a b
    o = round-off false a b B (scaled a b one a≤b)
      where
        scaled : (a b o : ℕ) → a ≤ b → a * o ≤ 4 * o * b
        scaled a b o h =
            let i : a * o ≤ b * o = mul-le-mul_right o h in
            omega (arith, mul_comm b o, mul_assoc 4 o b)

    least : T (le (round binary64 false a b) (fin false 1 (pos 0)))
    least = subst (λ (z : Float). T (le (round binary64 false a b) z)) one-round (round_mono binary64 a b 1 1 B (lit< tt) (cross a b a≤b))
      where
        cross : (a b : ℕ) → a ≤ b → a * 1 ≤ 1 * b
        cross a b h = omega arith

-- ---- the tested case
both_ways : (x y : Float) → T (lt zero x) → T (le y largest) → NotAbove x y → InUnit (div binary64 x y)
both_ways x y h k n = let p = positives x y h k n in quotient x y p.0 p.1 n

chosen : (t : Bool) (a b : Float) → t ≡ lt a b → T (lt zero (cond t a b)) → T (le (cond t b a) largest) → InUnit (div binary64 (cond t a b) (cond t b a))
chosen true a b h k l = both_ways a b k l (inl (subst (λ (z : Bool). T z) h tt))
chosen false a b h k l = both_ways b a k l (inr (subst (λ (z : Bool). T (not z)) h tt))

pub ratio-unit : (y x : Float) → tested y x ≡ true → InUnit (ratio y x)
unfolding ratio
ratio-unit y x h =
    let t : T (tested y x) = subst (λ (z : Bool). T z) (sym h) tt in
    chosen (steep_of y x) (size_of x) (size_of y) refl
    (and_l (lt zero (smaller y x)) (le (larger y x) largest) t) (and_r (lt zero (smaller y x)) (le (larger y x) largest) t)

pub ratio-fits : (y x : Float) → T (fits binary64 (ratio y x))
unfolding ratio
ratio-fits y x = div-fits binary64 (smaller y x) (larger y x)
