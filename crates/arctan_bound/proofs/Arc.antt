-- The rule's arctangent of u, from 0 to 1, is within 88 * 2 ^ -53 of the sum of the first 64 terms of Euler's series.
use mathlib.Core.Path.{◌≡◌, refl, sym, ◌∙◌, ap, subst}
use mathlib.Core.Bool.{false}
use mathlib.Core.List.{List, [], ◌∷◌}
use Prim.Native.Nat.{ℕ, zero, suc, ◌+◌, ◌*◌, ◌/◌, ◌%◌, ◌≤◌, ◌<◌, ◌^◌}
use native.Mathlib.Nat.{one-le-pow, mul-add, add-mul, mul_assoc, mul_comm, mul_left_comm, mul_right_comm, zero-mul, zero-add, mul-pos, mul-le-mul}
use native.Mathlib.Nat.{mul-le-mul_left, mul-le-mul_right, le_trans, le_of_lt, div-add-mod', div-lt_iff_lt-mul, mod-lt, min-eq_left}
use native.Mathlib.Nat.{pow-suc, pow-succ'}
use native.Mathlib.Omega.{arith}
use lib.Dec.{T, lit<, lit≤}
use lib.Ieee.{Float, binary64, fits}
use lib.Ieee.Exact.{HasValue}
use Rattle.series.specs.Poly.{total, value}
use Rattle.series.specs.Near.{Near}
use Rattle.series.proofs.Values.{value_bound}
use Rattle.series.proofs.Nears.{near-scale, near_unscale}
use Rattle.laws.specs.Units.{tick, one}
use Rattle.laws.proofs.Units.{tick_pos, one_pos}
use Rattle.arctan_table.specs.Table.{table, coefs_at}
use Rattle.arctan.specs.Rows.{row_from, row_at}
use Rattle.arctan.specs.Sizes.{InUnit, Rest}
use Rattle.arctan.specs.Rule.{series_at, units_at, place_of, arc_of}
use Rattle.arctan.proofs.Fit.{coefs_fitting, first_above, row_from_fit}
use Rattle.arctan.proofs.WholePart.{cell, cell_pos, part, placed}
use Rattle.series.specs.Factorial.{factorial}
use Rattle.arctan_table.specs.Euler.{term, terms}
use Rattle.arctan_table.specs.Euler as exact
use Rattle.arctan_table.proofs.Quotient.{top, bottom}
use Rattle.arctan_table.proofs.Euler.{euler_quotient}
use Rattle.arctan_table.proofs.Rows.{coef_list, added, taken, each, scale_of}
use Rattle.arctan_table.proofs.Row.{row_law, RowLaw, added_at, taken_at, mul_power}
use Rattle.arctan_bound.proofs.Horner.{series_near}
use Rattle.arctan_bound.proofs.Converted.{grain, tick_grain}

-- ---- the row's law and the rounding together
scale_is : (d x : ℕ) → scale_of * (d ^ 9 * x) ≡ 9007199254740992 * ((32 * d) ^ 9 * x)
unfolding scale_of
scale_is d x =
    let e : (32 * d) ^ 9 ≡ 32 ^ 9 * d ^ 9 = mul_power 32 d 9 in
    rw e (simp mul_assoc (omega arith))

join : (t o W N B K L p m e : ℕ) → o ≡ 9007199254740992 * t → 0 < W → 140737488355328 * e ≤ 9007199254740992 * (W * B) →
    Near e (9007199254740992 * (W * N)) 0 (K * B) (L * B) → Near (24 * t * W) (p * W) (m * W) (K * t) (L * t) → Near (88 * t * B) (p * B) (m * B) (o * N) 0
join t o W N B K L p m e oe W₀ small v w =
    let a = near-scale t v in
    let b = near-scale B w in
    let i : e ≤ 64 * (W * B) = omega arith in
    let i' : e * t ≤ 64 * (W * B) * t = mul-le-mul_right t i in
    let x₁ : 64 * (W * B) * t ≡ 64 * (t * (B * W)) = simp (mul_assoc, mul_left_comm, mul_comm) in
    let x₂ : 24 * t * W * B ≡ 24 * (t * (B * W)) = simp (mul_assoc, mul_comm) in
    let x₃ : 88 * t * B * W ≡ 88 * (t * (B * W)) = simp mul_assoc in
    let x₄ : 9007199254740992 * (W * N) * t ≡ o * N * W =
    rw oe (simp (mul_assoc, mul_left_comm, mul_comm)) in
    let y₁ = mul_right_comm K B t in
    let y₂ = mul_right_comm L B t in
    let y₃ = mul_right_comm p W B in
    let y₄ = mul_right_comm m W B in
    let z₁ = zero-mul t in
    let z₂ = zero-mul W in
    let r : Near (88 * t * B * W) (p * B * W) (m * B * W) (o * N * W) (0 * W) = record { above = omega arith; below = omega arith } in
    near_unscale W W₀ r

-- from the polynomials' quotient to the sum S / T
over-terms : (t o N B p m S T : ℕ) → 0 < B → S * B ≡ N * T → Near (88 * t * B) (p * B) (m * B) (o * N) 0 → Near (88 * t * T) (p * T) (m * T) (o * S) 0
over-terms t o N B p m S T B₀ e v =
    let a = near-scale T v in
    let x : o * N * T ≡ o * S * B = mul_assoc o N T ∙ (ap (λ (z : ℕ). o * z) (sym e) ∙ sym (mul_assoc o S B)) in
    let y₁ = mul_right_comm (88 * t) B T in
    let y₂ = mul_right_comm p B T in
    let y₃ = mul_right_comm m B T in
    let z₁ = zero-mul T in
    let z₂ = zero-mul B in
    let r : Near (88 * t * T * B) (p * T * B) (m * T * B) (o * S * B) (0 * B) = record { above = omega arith; below = omega arith } in
    near_unscale B B₀ r

-- ---- the sum's denominator is above 0
factorial_pos : (n : ℕ) → 0 < factorial n
unfolding factorial
factorial_pos zero = lit< tt
factorial_pos (suc n) = mul-pos (omega arith) (factorial_pos n)

pub terms_pos : (k n a b : ℕ) → 0 < b → 0 < (terms k n a b).bottom
unfolding terms term exact.plus
terms_pos zero n a b h = lit< tt
terms_pos (suc k) n a b h =
    let i = mul-pos h h in
    let w : 0 < a * a + b * b = omega arith in
    mul-pos (mul-pos (factorial_pos (2 * n + 1)) (one-le-pow (n + 1) (a * a + b * b) w)) (terms_pos k (suc n) a b h)

-- the series in units
follow_near : (t W h q A B : ℕ) → t ≡ 256 * h → Near (292 * W) (q * W) (0 * W) (256 * A) (256 * B) → Near (24 * t * W) (q * h * W) (0 * W) (A * t) (B * t)
follow_near t W h q A B e w =
    let w' = near-scale h w in
    let sw : (a : ℕ) → 256 * a * h ≡ a * t = λ a. mul_right_comm 256 a h ∙ (ap (λ (z : ℕ). z * a) (sym e) ∙ mul_comm t a) in
    let x₁ = sw A in
    let x₂ = sw B in
    let x₃ = mul_right_comm q W h in
    let x₄ : 0 * W * h ≡ 0 = ap (λ (z : ℕ). z * h) (zero-mul W) ∙ zero-mul h in
    let x₅ = zero-mul W in
    let y₂ : 24 * t * W ≡ 24 * (t * W) = mul_assoc 24 t W in
    let y₃ : 292 * W * h ≡ 292 * (h * W) = mul_assoc 292 W h ∙ ap (λ (z : ℕ). 292 * z) (mul_comm W h) in
    let y₄ : t * W ≡ 256 * (h * W) = ap (λ (z : ℕ). z * W) e ∙ mul_assoc 256 h W in
    record { above = omega arith; below = omega arith }

-- the row's law at the point U = j d + a
record RowAt (j a d U : ℕ) : Type 0 where
  off : ℕ
  small : 140737488355328 * off ≤ 9007199254740992 * ((32 * d) ^ 9 * value 128 bottom U d)
  near : Near off (9007199254740992 * ((32 * d) ^ 9 * value 128 top U d)) 0
      (value 9 (added_at j) a (32 * d) * value 128 bottom U d) (value 9 (taken_at j) a (32 * d) * value 128 bottom U d)
  some : 0 < value 128 bottom U d

row_at_lem : (j a d : ℕ) → RowLaw j a d → RowAt j a d (j * d + a)
row_at_lem j a d l =
    record {
      off = l.off;
      small = rw (scale_is d (value 128 bottom (j * d + a) d)) at l.small;
      near = rw (scale_is d (value 128 top (j * d + a) d)) at l.near;
      some = l.some;
    }

-- p - m units, if they follow the polynomial of U's row, are near the sum at U
conclude : (U p m : ℕ) → U / cell ≤ 32 →
    Near (24 * tick * one ^ 9) (p * one ^ 9) (m * one ^ 9) (value 9 (added_at (U / cell)) (U % cell) one * tick) (value 9 (taken_at (U / cell)) (U % cell) one * tick) →
    Near (88 * tick * (terms 64 0 U (32 * cell)).bottom) (p * (terms 64 0 U (32 * cell)).bottom) (m * (terms 64 0 U (32 * cell)).bottom) (one * (terms 64 0 U (32 * cell)).top) 0
conclude U p m last f =
    let j = U / cell in
    let z = U % cell in
    let s = terms 64 0 U (32 * cell) in
    let l = row_law j z cell last (le_of_lt (mod-lt U cell_pos)) cell_pos in
    let o : 32 * cell ≡ one = omega arith in
    let N = value 128 top U cell in
    let B = value 128 bottom U cell in
    let at_U : RowAt j z cell U = subst (λ (x : ℕ). RowAt j z cell x) (div-add-mod' U cell) (row_at_lem j z cell l) in
    let v : Near at_U.off (9007199254740992 * (one ^ 9 * N)) 0 (value 9 (added_at j) z one * B) (value 9 (taken_at j) z one * B) =
    subst (λ (x : ℕ). Near at_U.off (9007199254740992 * (x ^ 9 * N)) 0 (value 9 (added_at j) z x * B) (value 9 (taken_at j) z x * B)) o at_U.near in
    let small : 140737488355328 * at_U.off ≤ 9007199254740992 * (one ^ 9 * B) =
    subst (λ (x : ℕ). 140737488355328 * at_U.off ≤ 9007199254740992 * (x ^ 9 * B)) o at_U.small in
    let q = join tick one (one ^ 9) N B (value 9 (added_at j) z one) (value 9 (taken_at j) z one) p m at_U.off refl (one-le-pow 9 one one_pos) small v f in
    over-terms tick one N B p m s.top s.bottom at_U.some (euler_quotient U cell) q

-- ---- the rule's series
pub record ArcNear (u : Float) : Type 0 where
  pub units : ℕ
  pub value : HasValue u false units one
  pub near : Near (88 * tick * (terms 64 0 units (32 * cell)).bottom) (arc_of u * grain * (terms 64 0 units (32 * cell)).bottom) (0 * (terms 64 0 units (32 * cell)).bottom)
      (one * (terms 64 0 units (32 * cell)).top) 0

arc_is : (u : Float) (n j : ℕ) → place_of u ≡ n → n / 144115188075855872 ≡ j → j ≤ 32 → arc_of u ≡ series_at (row_from (coefs_at j)) (n % 144115188075855872)
unfolding arc_of units_at row_at
arc_is u n j e f h = rw (e, f, min-eq_left h) refl

pub arc-near : (u : Float) → InUnit u → T (fits binary64 u) → ArcNear u
unfolding added_at taken_at
arc-near u i t =
    let w = placed u i t in
    let U = w.units in
    let j = U / cell in
    let z = U % cell in
    let n = U / part in
    let h = n % 144115188075855872 in
    let k = coefs_at j in
    let q = series_at (row_from k) h in
    let z≤ : z < cell = mod-lt U cell_pos in
    let fit = coefs_fitting j in
    let s = series_near h z w.low w.high (omega arith) (rest_of n) k (row_from_fit k fit) (first_above k fit) in
    let f = follow_near tick (one ^ 9) grain q (value 9 (added_at j) z one) (value 9 (taken_at j) z one) tick_grain s in
    record {
      units = U;
      value = w.value;
      near =
          subst
          (λ (x : ℕ). Near (88 * tick * (terms 64 0 U (32 * cell)).bottom) (x * grain * (terms 64 0 U (32 * cell)).bottom)
          (0 * (terms 64 0 U (32 * cell)).bottom) (one * (terms 64 0 U (32 * cell)).top) 0)
          (sym (arc_is u n j w.place w.row w.last)) (conclude U (q * grain) 0 w.last f);
    }
  where
    rest_of : (n : ℕ) → Rest (n % 144115188075855872)
    rest_of n = omega arith

-- ---- u itself, up to 2 ^ -26: the first row is u, less a third of its cube, and so on
unfoldable pub after : List ℕ → List ℕ
after [] = []
after (a ∷ []) = []
after (a ∷ b ∷ p) = p

added_first : added_at 0 ≡ 0 ∷ 9007199254740992 ∷ after (added_at 0)
unfolding added_at after each added coef_list coefs_at table
added_first = refl

taken-first : taken_at 0 ≡ 0 ∷ 0 ∷ after (taken_at 0)
unfolding taken_at after each taken coef_list coefs_at table
taken-first = refl

added_rest : total (after (added_at 0)) ≤ 9007199254740992
unfolding added_at after each added coef_list coefs_at table total
added_rest = lit≤ tt

taken-rest : total (after (taken_at 0)) ≤ 9007199254740992
unfolding taken_at after each taken coef_list coefs_at table total
taken-rest = lit≤ tt

two-terms : (n c : ℕ) (p : List ℕ) (a d : ℕ) → value (suc (suc n)) (0 ∷ c ∷ p) a d ≡ a * (c * d ^ suc n + a * value n p a d)
unfolding value
two-terms n c p a d = rw (zero-mul (d ^ suc (suc n))) (zero-add (a * (c * d ^ suc n + a * value n p a d)))

-- what the rest of a row adds: 2 (o ^ 9) at most
rest_small : (p : List ℕ) (a o : ℕ) → total p ≤ 9007199254740992 → 67108864 * a ≤ o → a * (a * value 7 p a o) ≤ 2 * o ^ 9
rest_small p a o h s =
    let i : value 7 p a o ≤ total p * o ^ 7 = value_bound 7 p a o (omega arith) in
    let i' : total p * o ^ 7 ≤ 9007199254740992 * o ^ 7 = mul-le-mul_right (o ^ 7) h in
    let j : a * a * value 7 p a o ≤ a * a * (9007199254740992 * o ^ 7) = mul-le-mul_left (a * a) (le_trans i i') in
    let k : 67108864 * a * (67108864 * a) ≤ o * o = mul-le-mul s s in
    let k₁ : 67108864 * a * (67108864 * a) ≡ 4503599627370496 * (a * a) = simp (mul_assoc, mul_left_comm) (omega arith) in
    let l : 2 * (4503599627370496 * (a * a)) * o ^ 7 ≤ 2 * (o * o) * o ^ 7 = mul-le-mul_right (o ^ 7) (omega arith) in
    let e₁ : a * a * (9007199254740992 * o ^ 7) ≡ 9007199254740992 * (a * a * o ^ 7) = mul_left_comm (a * a) 9007199254740992 (o ^ 7) in
    let e₂ : 2 * (4503599627370496 * (a * a)) * o ^ 7 ≡ 9007199254740992 * (a * a * o ^ 7) = simp mul_assoc (omega arith) in
    let e₃ : 2 * (o * o) * o ^ 7 ≡ 2 * o ^ 9 = mul_assoc 2 (o * o) (o ^ 7) ∙ ap (λ (z : ℕ). 2 * z) (nine o) in
    let e₄ = mul_assoc a a (value 7 p a o) in
    omega arith
  where
    nine : (o : ℕ) → o * o * o ^ 7 ≡ o ^ 9
    nine o = mul_assoc o o (o ^ 7) ∙ (ap (λ (z : ℕ). o * z) (sym (pow-succ' o 7)) ∙ sym (pow-succ' o 8))

first_row : (t o W U x y K L : ℕ) → K * t ≡ U * W + x * t → L ≡ y → x ≤ 2 * W → y ≤ 2 * W → Near (24 * t * W) (U * W) (0 * W) (K * t) (L * t)
first_row t o W U x y K L e f h i =
    let h' : x * t ≤ 2 * W * t = mul-le-mul_right t h in
    let i' : y * t ≤ 2 * W * t = mul-le-mul_right t i in
    let a : 2 * W * t ≡ 2 * (t * W) = mul_assoc 2 W t ∙ ap (λ (z : ℕ). 2 * z) (mul_comm W t) in
    let b : 24 * t * W ≡ 24 * (t * W) = mul_assoc 24 t W in
    let c : L * t ≡ y * t = ap (λ (z : ℕ). z * t) f in
    let d = zero-mul W in
    record { above = omega arith; below = omega arith }

pub slight-near : (U : ℕ) → 67108864 * U ≤ one →
    Near (88 * tick * (terms 64 0 U (32 * cell)).bottom) (U * (terms 64 0 U (32 * cell)).bottom) (0 * (terms 64 0 U (32 * cell)).bottom) (one * (terms 64 0 U (32 * cell)).top) 0
slight-near U h =
    let t = tick_pos in
    let small : U < 1 * cell = omega arith in
    let l : U / cell < 1 = (div-lt_iff_lt-mul cell_pos).1 small in
    let j : U / cell ≡ 0 = omega arith in
    let z : U % cell ≡ U = sym (ap (λ (x : ℕ). x * cell + U % cell) j ∙ (ap (λ (x : ℕ). x + U % cell) (zero-mul cell) ∙ zero-add (U % cell))) ∙ div-add-mod' U cell in
    let p = after (added_at 0) in
    let q = after (taken_at 0) in
    let K : value 9 (added_at 0) U one ≡ U * (9007199254740992 * one ^ 8 + U * value 7 p U one) =
    ap (λ (r : List ℕ). value 9 r U one) added_first ∙ two-terms 7 9007199254740992 p U one in
    let L : value 9 (taken_at 0) U one ≡ U * (0 * one ^ 8 + U * value 7 q U one) =
    ap (λ (r : List ℕ). value 9 r U one) taken-first ∙ two-terms 7 0 q U one in
    let L' : value 9 (taken_at 0) U one ≡ U * (U * value 7 q U one) =
    L ∙ (ap (λ (x : ℕ). U * (x + U * value 7 q U one)) (zero-mul (one ^ 8)) ∙ ap (λ (x : ℕ). U * x) (zero-add (U * value 7 q U one))) in
    let K' : value 9 (added_at 0) U one * tick ≡ U * one ^ 9 + U * (U * value 7 p U one) * tick =
    ap (λ (x : ℕ). x * tick) K ∙ leading tick one U (one ^ 8) (one ^ 9) (U * value 7 p U one) refl (pow-suc one 8) in
    let f = first_row tick one (one ^ 9) U (U * (U * value 7 p U one)) (U * (U * value 7 q U one)) (value 9 (added_at 0) U one) (value 9 (taken_at 0) U one)
    K' L' (rest_small p U one added_rest h) (rest_small q U one taken-rest h) in
    let g : Near (24 * tick * one ^ 9) (U * one ^ 9) (0 * one ^ 9) (value 9 (added_at (U / cell)) (U % cell) one * tick) (value 9 (taken_at (U / cell)) (U % cell) one * tick) =
    subst (λ (i : ℕ). Near (24 * tick * one ^ 9) (U * one ^ 9) (0 * one ^ 9) (value 9 (added_at i) (U % cell) one * tick) (value 9 (taken_at i) (U % cell) one * tick)) (sym j)
    (subst (λ (x : ℕ). Near (24 * tick * one ^ 9) (U * one ^ 9) (0 * one ^ 9) (value 9 (added_at 0) x one * tick) (value 9 (taken_at 0) x one * tick)) (sym z) f) in
    conclude U U 0 (omega arith) g
  where
    leading : (t o U Y W x : ℕ) → o ≡ 9007199254740992 * t → W ≡ Y * o → U * (9007199254740992 * Y + x) * t ≡ U * W + U * x * t
    leading t o U Y W x e f =
        let a : U * (9007199254740992 * Y + x) * t ≡ U * (9007199254740992 * Y) * t + U * x * t =
        ap (λ (z : ℕ). z * t) (mul-add U (9007199254740992 * Y) x) ∙ add-mul (U * (9007199254740992 * Y)) (U * x) t in
        let b : U * (9007199254740992 * Y) * t ≡ U * W = rw (f, e) (simp (mul_assoc, mul_left_comm, mul_comm)) in
        a ∙ ap (λ (z : ℕ). z + U * x * t) b
