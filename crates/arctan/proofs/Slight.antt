-- That y / x is below 2 ^ -26 in size, with x above 0, is seen from u, which the code has at hand.
use Rattle.std.proofs.Common.{◌≡◌, ℕ, ◌+◌, ◌*◌, ◌<◌, ◌≤◌, Bool, true, false, cond, not, ◌&&◌, ◌||◌, T, eqb, ltb, pos, sym, refl, ap, ◌∙◌, subst, inl, ⊎_elim, true≢false, le_of_eq, le_of_lt, mul-pos, arith, lit<, eqb→eq, ltb→lt, lt→ltb, nltb→le}
use lib.Count.{count_trailing_zeros}
use lib.Ieee.{Float, nan, inf, fin, binary64, up, down, of_bits, of_fields, odd, round, neg, div, lt, le, eq}
use lib.Ieee.Bits.{is_true}
use lib.Ieee.Fits.{down_pos, and_l, and_r}
use lib.Ieee.Order.{round_mono}
use Rattle.laws.specs.Literal.{zero, largest}
use Rattle.laws.proofs.SignBit.{neg-neg, div-neg}
use Rattle.laws.proofs.Logic.{not_true}
use Rattle.arctan.specs.Sizes.{InUnit}
use Rattle.fixed.specs.Size.{size_of}
use Rattle.arctan.specs.Rule.{tiny, steep_of, slight, ratio}
use Rattle.arctan.proofs.Tests.{tested}
use Rattle.arctan.proofs.Ratio.{Positive, positives, one-round, not-zero, or_cases, ratio-unit}

pub not_below_zero : (x : Float) → T (lt zero x) → lt x zero ≡ false
unfolding lt of_bits of_fields odd
not_below_zero nan h = refl
not_below_zero (inf true) h = absurd h
not_below_zero (inf false) h = refl
not_below_zero (fin true m e) h = absurd h
not_below_zero (fin false m e) h =
    not_true (ltb (m * up e * 1) (0 * 1 * down e)) (λ x. let i = ltb→lt (m * up e * 1) (0 * 1 * down e) x in let z : ⊥ = omega arith in z)

-- a number from 0 to 1 with either sign is below 2 ^ -26 in size or not alike
either_sign : (s : Bool) (u : Float) → InUnit u → lt (size_of (cond s (neg u) u)) tiny ≡ lt u tiny
unfolding lt neg of_bits of_fields odd count_trailing_zeros size_of
either_sign s nan h = absurd h
either_sign s (inf t) h = absurd h
either_sign s (fin true m e) h = absurd h
either_sign false (fin false m e) h =
    rw (not_true (ltb (m * up e * 1) (0 * 1 * down e)) (λ x. let i = ltb→lt (m * up e * 1) (0 * 1 * down e) x in let z : ⊥ = omega arith in z)) refl
either_sign true (fin false m e) h = go (ltb 0 (m * up e * 1 + 0 * 1 * down e)) refl
  where
    go : (b : Bool) → b ≡ ltb 0 (m * up e * 1 + 0 * 1 * down e) → lt (cond b (fin false m e) (fin true m e)) tiny ≡ lt (fin false m e) tiny
    go true e' = refl
    go false e' =
        let d = down_pos e in
        let i : m * up e * 1 + 0 * 1 * down e ≤ 0 = nltb→le 0 (m * up e * 1 + 0 * 1 * down e) (subst (λ (z : Bool). T (not z)) e' tt) in
        is_true (ltb 0 (m * up e * 67108864 + 1 * 1 * down e)) (lt→ltb 0 (m * up e * 67108864 + 1 * 1 * down e) (omega arith))
        ∙ sym (is_true (ltb (m * up e * 67108864) (1 * 1 * down e)) (lt→ltb (m * up e * 67108864) (1 * 1 * down e) (omega arith)))

pub flat : (t s : Bool) (x b : Float) → t ≡ false → s ≡ false → div binary64 (cond t (cond s (neg x) x) b) (cond t b (cond s (neg x) x)) ≡ div binary64 b x
flat true s x b e f = absurd (true≢false e)
flat false true x b e f = absurd (true≢false f)
flat false false x b e f = refl

pub signed_quotient : (s : Bool) (y x : Float) → cond s (neg (div binary64 (cond s (neg y) y) x)) (div binary64 (cond s (neg y) y) x) ≡ div binary64 y x
signed_quotient false y x = refl
signed_quotient true y x = ap neg (div-neg binary64 y x) ∙ neg-neg (div binary64 y x)

-- a number from 1 on is not
not-tiny : (m d : ℕ) → 1 * 1 * d ≤ m * 1 → 0 < d → ltb (m * 67108864) (1 * 1 * d) ≡ false
not-tiny m d h k =
    not_true (ltb (m * 67108864) (1 * 1 * d)) (λ x. let i = ltb→lt (m * 67108864) (1 * 1 * d) x in let z : ⊥ = omega arith in z)

at_least : (a b : ℕ) → T (ltb a b || (eqb a b && (true || eqb a 0))) → a ≤ b
at_least a b h =
    ⊎_elim (λ x. le_of_lt (ltb→lt a b x)) (λ x. le_of_eq (eqb→eq a b (and_l (eqb a b) (true || eqb a 0) x))) (or_cases (ltb a b) (eqb a b && (true || eqb a 0)) h)

not_negative : (d m : ℕ) → 0 < d → T (false || (eqb (1 * 1 * d) m && (false || eqb (1 * 1 * d) 0))) → ⊥
not_negative d m k h = let i = eqb→eq (1 * 1 * d) 0 (and_r (eqb (1 * 1 * d) m) (false || eqb (1 * 1 * d) 0) h) in let z : ⊥ = omega arith in z

large : (s : Bool) (v : Float) → T (le (fin false 1 (pos 0)) v) → lt (size_of (cond s (neg v) v)) tiny ≡ false
unfolding lt le eq neg of_bits of_fields odd count_trailing_zeros size_of
large s nan h = absurd h
large s (inf true) h = absurd h
large false (inf false) h = refl
large true (inf false) h = refl
large s (fin true m e) h = absurd (not_negative (down e) (m * up e * 1) (down_pos e) h)
large false (fin false m e) h =
    let i = at_least (1 * 1 * down e) (m * up e * 1) h in
    rw (not_true (ltb (m * up e * 1) (0 * 1 * down e)) (λ x. let j = ltb→lt (m * up e * 1) (0 * 1 * down e) x in let z : ⊥ = omega arith in z))
    (not-tiny (m * up e) (down e) i (down_pos e))
large true (fin false m e) h =
    let d = down_pos e in
    let i = at_least (1 * 1 * down e) (m * up e * 1) h in
    rw (is_true (ltb 0 (m * up e * 1 + 0 * 1 * down e)) (lt→ltb 0 (m * up e * 1 + 0 * 1 * down e) (omega arith))) (not-tiny (m * up e) (down e) i d)

-- y is the larger: y / x is 1 at least in size
from_one : (x y : Float) → Positive x → Positive y → T (lt x y) → T (le (fin false 1 (pos 0)) (div binary64 y x))
unfolding lt div
from_one nan y p q h = absurd p
from_one (inf s) y p q h = absurd p
from_one (fin true n d) y p q h = absurd p
from_one (fin false n d) nan p q h = absurd q
from_one (fin false n d) (inf s) p q h = absurd q
from_one (fin false n d) (fin true m e) p q h = absurd q
from_one (fin false n d) (fin false m e) p q h =
    let a = n * up d * down e in
    let b = m * up e * down d in
    let i : a ≤ b = le_of_lt (ltb→lt a b h) in
    subst (λ (t : Bool). T (le (fin false 1 (pos 0)) (cond t (cond (eqb m 0) nan (inf false)) (round binary64 false b a)))) (sym (not-zero n (up d) p))
    (subst (λ (z : Float). T (le z (round binary64 false b a))) one-round (round_mono binary64 1 1 b a (lit< tt) (mul-pos p (down_pos e)) (omega arith)))

cases : (t p : Bool) (a b c : Bool) → (t ≡ false → p ≡ true → a ≡ c) → (t ≡ true → p ≡ true → c ≡ false) → (not t && (p && a)) ≡ (p && c)
cases true true a b c f g = sym (g refl refl)
cases true false a b c f g = refl
cases false true a b c f g = f refl refl
cases false false a b c f g = refl

-- what the code tests: y is not the larger in size, x is above 0, and u is below 2 ^ -26
abbrev pub quick : Float → Float → Bool
quick y x = not (steep_of y x) && (lt zero x && lt (ratio y x) tiny)

pub slight_is : (y x : Float) → tested y x ≡ true → slight y x ≡ quick y x
unfolding ratio size_of
slight_is y x g = sym (cases (steep_of y x) (lt zero x) (lt (ratio y x) tiny) true (lt (size_of (div binary64 y x)) tiny) level steep)
  where
    right : lt zero x ≡ true → lt x zero ≡ false
    right p = not_below_zero x (subst (λ (t : Bool). T t) (sym p) tt)

    whole : T (tested y x)
    whole = subst (λ (t : Bool). T t) (sym g) tt

    level : steep_of y x ≡ false → lt zero x ≡ true → lt (ratio y x) tiny ≡ lt (size_of (div binary64 y x)) tiny
    level e p =
        let u : ratio y x ≡ div binary64 (size_of y) x = flat (steep_of y x) (lt x zero) x (size_of y) e (right p) in
        let i = subst InUnit u (ratio-unit y x g) in
        ap (λ (r : Float). lt r tiny) u
        ∙ (sym (either_sign (lt y zero) (div binary64 (size_of y) x) i) ∙ ap (λ (r : Float). lt (size_of r) tiny) (signed_quotient (lt y zero) y x))

    steep : steep_of y x ≡ true → lt zero x ≡ true → lt (size_of (div binary64 y x)) tiny ≡ false
    steep e p =
        let t = subst (λ (b : Bool). T (lt zero (cond b (size_of x) (size_of y)) && le (cond b (size_of y) (size_of x)) largest)) e whole in
        let h : T (lt (size_of x) (size_of y)) = subst (λ (b : Bool). T b) (sym e) tt in
        let q = positives (size_of x) (size_of y) (and_l (lt zero (size_of x)) (le (size_of y) largest) t) (and_r (lt zero (size_of x)) (le (size_of y) largest) t) (inl h) in
        let one = from_one (size_of x) (size_of y) q.0 q.1 h in
        let same : size_of x ≡ x = ap (λ (b : Bool). cond b (neg x) x) (right p) in
        ap (λ (r : Float). lt (size_of r) tiny) (sym (signed_quotient (lt y zero) y x))
        ∙ large (lt y zero) (div binary64 (size_of y) x) (subst (λ (z : Float). T (le (fin false 1 (pos 0)) (div binary64 (size_of y) z))) same one)
