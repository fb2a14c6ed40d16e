-- The samples of all depths: depth k's sample i is depth k + d's sample 2^d * i, bit for bit, wherever the hunt's own test on the step of depth 0 passes.
use mathlib.Core.Path.{◌≡◌, refl, sym, ap, ◌∙◌, subst}
use mathlib.Core.Logic.{inl, inr}
use mathlib.Core.Bool.{Bool, false, not}
use Prim.Native.Nat.{ℕ, zero as nought, suc, ◌+◌, ◌*◌, ◌^◌, ◌≤◌, ◌<◌}
use native.Mathlib.Nat.{mul-le-mul_left, mul-pos, pow-suc}
use native.Mathlib.Omega.{arith}
use lib.IntN.{ℤ, pos, negsuc}
use lib.Dec.{T, T_not, lit≤, lit<}
use lib.Pow.{pow-add, pow_pos, pow_mono}
use lib.Ieee.{Float, nan, inf, fin, binary64, round, of_bits, of_int, add, mul, lt, le, fits, up, down}
use lib.Ieee.Fits.{down_pos}
use lib.Ieee.Scale.{finite}
use Rattle.laws.specs.Size.{abs}
use Rattle.laws.specs.Literal.{ten⁻¹⁵}
use Rattle.laws.specs.Part.{part, wide}
use Rattle.laws.proofs.Logic.{cond_above}
use Rattle.laws.proofs.Fraction.{lt→cross}
use Rattle.laws.proofs.Order.{le_lt_trans, lt-or-le}
use Rattle.laws.proofs.SignBit.{round-abs}
use Rattle.laws.proofs.Rounding.{Rounds, not_above}
use Rattle.laws.proofs.Quotient.{whole, div-whole, mul-part}
use Rattle.hunt.specs.Cells.{cells, sample}

-- ---- a span that is cut into n cells
abbrev pub cut : Float → Float → ℕ → ℕ → Float
cut start span n i = sample start (part span n) i

pub cut_at : (start span : Float) (n i : ℕ) → 0 < i → cut start span n i ≡ add binary64 start (mul binary64 (part span n) (of_int binary64 (pos i)))
unfolding sample
cut_at start span n i h = cond_above i start (add binary64 start (mul binary64 (part span n) (of_int binary64 (pos i)))) h

pub cut_start : (start span : Float) (n i : ℕ) → i ≡ 0 → cut start span n i ≡ start
unfolding sample
cut_start start span n i h = rw h

-- sample 2i of twice as many cells is sample i, bit for bit
cut_double : (start span : Float) (n i : ℕ) → T (fits binary64 span) → T (finite span) → T (le wide (abs span)) → 0 < n → n ≤ 2 ^ 20 → i ≤ 2 ^ 20
    → cut start span (2 * n) (2 * i) ≡ cut start span n i
cut_double start span n nought f p w P Q h = cut_start start span (2 * n) (2 * 0) (omega arith) ∙ sym (cut_start start span n 0 refl)
cut_double start span n (suc i) f p w P Q h =
    cut_at start span (2 * n) (2 * suc i) (omega arith)
    ∙ ap (add binary64 start) (mul-part span n (suc i) f p w P Q h)
    ∙ sym (cut_at start span n (suc i) (omega arith))

-- ---- depth k and depth k + 1
cells-suc : (k : ℕ) → cells (suc k) ≡ 2 * cells k
cells-suc k = rw (pow-suc 2 k) (omega arith)

cells_pos : (k : ℕ) → 0 < cells k
cells_pos k = omega (arith, pow_pos k)

cells-le : (k : ℕ) → k ≤ 6 → cells k ≤ 2 ^ 14
cells-le k h = let g : 2 ^ k ≤ 2 ^ 6 = pow_mono h in omega arith

module _ (start span : Float) (f : T (fits binary64 span)) (p : T (finite span)) (w : T (le wide (abs span))) where
  pub cut_depth : (k i : ℕ) → k ≤ 6 → i ≤ cells k → cut start span (cells (suc k)) (2 * i) ≡ cut start span (cells k) i
  cut_depth k i h l =
      let g : cells k ≤ 2 ^ 14 = cells-le k h in
      ap (λ (n : ℕ). cut start span n (2 * i)) (cells-suc k) ∙ cut_double start span (cells k) i f p w (cells_pos k) (omega arith) (omega arith)

  -- any two depths
  pub cut_depths : (k d i : ℕ) → k + d ≤ 7 → i ≤ cells k → cut start span (cells (k + d)) (2 ^ d * i) ≡ cut start span (cells k) i
  cut_depths k nought i h l =
      let a : k + 0 ≡ k = omega arith in
      let b : 2 ^ 0 * i ≡ i = omega arith in
      ap (λ (n : ℕ). cut start span (cells n) (2 ^ 0 * i)) a ∙ ap (cut start span (cells k)) b
  cut_depths k (suc d) i h l =
      let a : k + suc d ≡ suc (k + d) = omega arith in
      let b : 2 ^ suc d * i ≡ 2 * (2 ^ d * i) = rw (pow-suc 2 d) (omega arith) in
      let c : 2 ^ d * i ≤ cells (k + d) = rw (pow-add 2 k d) (omega (arith, mul-le-mul_left (2 ^ d) l)) in
      ap (λ (n : ℕ). cut start span (cells n) (2 ^ suc d * i)) a
      ∙ ap (cut start span (cells (suc (k + d)))) b
      ∙ cut_depth (k + d) (2 ^ d * i) (omega arith) c
      ∙ cut_depths k d i (omega arith) l

-- ---- the test `step.abs() < 1e-15` of depth 0, where it fails, says that the span is 2^-42 at least in size
narrow : (s : Bool) (m : ℕ) (e : ℤ) → T (lt (abs (fin s m e)) wide) → m * up e * 2 ^ 42 < down e
unfolding abs
narrow s m e k = omega (arith, lt→cross (fin false m e) wide tt tt k)

step_size : (s : Bool) (m : ℕ) (e : ℤ) → abs (part (fin s m e) 256) ≡ round binary64 false (m * up e) (256 * down e)
step_size s m e = ap abs (div-whole s m e (of_int binary64 (pos 256)) 256 (lit< tt) (whole 256 (lit≤ tt))) ∙ round-abs binary64 s (m * up e) (256 * down e)

-- |span| below 2^-42 would make the step at most 2^-50, which is below 1e-15
short-step : (s : Bool) (m : ℕ) (e : ℤ) → T (lt (abs (fin s m e)) wide) → T (lt (abs (part (fin s m e) 256)) ten⁻¹⁵)
short-step s m e h =
    let l : m * up e * 2 ^ 42 < down e = narrow s m e h in
    let z = round binary64 false (m * up e) (256 * down e) in
    let r : Rounds binary64 z (m * up e) 0 (256 * down e) = record { sign = false; size = m * up e; makes = omega arith; is = refl } in
    let g : T (le z (fin false 1 (negsuc 49))) = not_above binary64 (fin false 1 (negsuc 49)) z (m * up e) 0 (256 * down e) (unfold fits in tt) tt (mul-pos (lit< tt) (down_pos e)) r (omega arith) in
    subst (λ (x : Float). T (lt x ten⁻¹⁵)) (sym (step_size s m e)) (le_lt_trans z (fin false 1 (negsuc 49)) ten⁻¹⁵ g (unfold lt of_bits in tt))

pub span-wide : (span : Float) → T (finite span) → T (not (lt (abs (part span 256)) ten⁻¹⁵)) → T (le wide (abs span))
span-wide nan p h = absurd p
span-wide (inf s) p h = absurd p
span-wide (fin s m e) p h =
    elim (lt-or-le (abs (fin s m e)) wide (unfold lib.Ieee.is_nan abs in tt) (unfold lib.Ieee.is_nan in tt)) [
      | inl l ↦ absurd
          (T_not (lt (abs (part (fin s m e) 256)) ten⁻¹⁵) h (short-step s m e l))
      | inr g ↦ g
    ]
