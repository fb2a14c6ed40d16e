-- What makes `square_root` IEEE 754's. A root is a number of the format (`square_root-fits`). Of a number above zero, every other number of the format is further from the exact root than
-- `square_root` (`square_root_nearest`), so that there is no tie, and whatever has this property is `square_root` (`square_root_only`). All is said over whole numbers: every finite number above zero is
-- m / 2 ^ 2148 for a whole m (`whole-square`), its root and the format's other numbers are a / 2 ^ 1074 and b / 2 ^ 1074, and squares are compared.
use mathlib.Core.Path.{◌≡◌, refl, sym, ap, ◌∙◌, subst}
use mathlib.Core.Bool.{true, false}
use Prim.Native.Nat.{ℕ, zero, suc, ◌+◌, ◌-◌, ◌*◌, ◌/◌, ◌%◌, ◌^◌, ◌≤◌, ◌<◌, zero-le}
use native.Mathlib.Nat.{le_antisymm, mul-le-mul_left, mul-le-mul_right, mul-lt-mul_of_pos_right, le_trans, le_of_lt, lt_of_lt_of_le}
use native.Mathlib.Nat.{lt_of_le_of_lt, lt_of_not-le, le_of_suc-le-suc, not-le_of_lt, lt_of_mul-lt-mul_right, mul-pos}
use native.Mathlib.Decide.{dec_le}
use native.Mathlib.Omega.{arith}
use lib.IntN.{ℤ}
use lib.Dec.{T, lit<}
use lib.Pow.{pow-add, pow_pos}
use lib.Ieee.{Float, nan, inf, fin, binary64, up, down, size, fits, of_bits, to_bits}
use lib.Ieee.Bits.{of_bits-to_bits}
use lib.Ieee.Exact.{HasValue}
use lib.Ieee.Fits.{nan-fits}
use Rattle.root.specs.WholeRoot.{nearest_root}
use Rattle.root.specs.Nearer.{Nearer, NearestRoot}
use Rattle.root.specs.Steps.{Nearest}
use Rattle.root.specs.SquareRoot.{root_units, square_root}
use Rattle.root.proofs.WholeRoot.{nearest_short}
use Rattle.laws.proofs.Value.{value_unique}
use Rattle.laws.proofs.Held.{Digits, held_digits, digits_multiple}
use Rattle.laws.proofs.Same.{same_value}
use Rattle.laws.proofs.Pattern.{Units, units-high}
use Rattle.laws.proofs.Positive.{pattern_of_finite, pattern_of-value}
use Rattle.root.proofs.Scale.{root_of-value}
use Rattle.root.proofs.Spreads.{spread}
use Rattle.root.proofs.Assemble.{root_at, units-fits}

-- ---- squares

square_le : (a b : ℕ) → a ≤ b → a * a ≤ b * b
square_le a b h = le_trans (mul-le-mul_left a h) (mul-le-mul_right b h)

square-lt : (a b : ℕ) → a < b → a * a < b * b
square-lt a b h = lt_of_le_of_lt (mul-le-mul_left a (le_of_lt h)) (mul-lt-mul_of_pos_right h (lt_of_le_of_lt zero-le h))

-- ---- s * p units against b units, p being 2 ^ k and m being n * (p * p): the middle lies beyond the root

module _ (n s p b : ℕ) (some : 0 < p * p) where
  above : n ≤ s * s + s → suc s * p ≤ b → 4 * (n * (p * p)) < (s * p + b) * (s * p + b)
  above r h =
      let middle : 4 * n < (2 * s + 1) * (2 * s + 1) = omega arith in
      omega (arith, mul-lt-mul_of_pos_right middle some, square_le ((2 * s + 1) * p) (s * p + b) (omega arith))

  below : suc s * suc s < n + suc s → b ≤ s * p → (suc s * p + b) * (suc s * p + b) < 4 * (n * (p * p))
  below r h =
      let middle : (2 * s + 1) * (2 * s + 1) < 4 * n = omega arith in
      omega (arith, mul-lt-mul_of_pos_right middle some, square_le (suc s * p + b) ((2 * s + 1) * p) (omega arith))

  -- where the root is s or more, whatever is below s
  short : s * s ≤ n → b < s * p → (s * p + b) * (s * p + b) < 4 * (n * (p * p))
  short r h = omega (arith, mul-le-mul_right (p * p) r, square-lt (s * p + b) (2 * s * p) (omega arith))

-- ---- any number that the format holds

module _ (k b : ℕ) (h : Digits binary64 b) where
  twice : (p b : ℕ) → 2 ^ 52 * p ≤ b → 2 ^ 53 * p ≤ 2 * b
  twice p b h = omega arith

  -- above s * 2 ^ k there is none before suc s * 2 ^ k
  next : (s : ℕ) → 2 ^ 52 ≤ s → s * 2 ^ k < b → suc s * 2 ^ k ≤ b
  next s lo l =
      let far : 2 ^ (53 + k) ≤ 2 * b = rw (pow-add 2 53 k) (twice (2 ^ k) b (le_trans (mul-le-mul_right (2 ^ k) lo) (le_of_lt l))) in
      let q = digits_multiple binary64 b k h far in
      subst (λ (x : ℕ). suc s * 2 ^ k ≤ x) (sym q.1) (mul-le-mul_right (2 ^ k) (lt_of_mul-lt-mul_right (2 ^ k) (subst (λ (x : ℕ). s * 2 ^ k < x) q.1 l)))

  -- below suc s * 2 ^ k there is none past s * 2 ^ k
  last : (s : ℕ) → 2 ^ 52 ≤ s → b < suc s * 2 ^ k → b ≤ s * 2 ^ k
  last s lo l = le_of_suc-le-suc (lt_of_not-le (λ (g : suc (s * 2 ^ k) ≤ b). not-le_of_lt l (next s lo g)))

pub nearer : (n s k b : ℕ) → Nearest n s → 2 ^ 104 ≤ n → 2 ^ 52 ≤ s → Digits binary64 b → Nearer (n * (2 ^ k * 2 ^ k)) (s * 2 ^ k) b
nearer n zero k b r lo s-lo h = absurd (not-le_of_lt s-lo zero-le)
nearer n (suc s) k b r lo s-lo h = record { under = under (dec_le (suc s * suc s) n); over = λ l. above n (suc s) (2 ^ k) b some r.below (next k b h (suc s) s-lo l) }
  where
    some : 0 < 2 ^ k * 2 ^ k
    some = mul-pos (pow_pos k) (pow_pos k)

    larger : (s : ℕ) → (suc s * suc s ≤ n → ⊥) → 2 ^ 52 ≤ s
    larger s g = le_of_suc-le-suc (lt_of_not-le (λ (l : suc s ≤ 2 ^ 52). g (le_trans (square_le (suc s) (2 ^ 52) l) lo)))

    under : Dec (suc s * suc s ≤ n) → b < suc s * 2 ^ k → (suc s * 2 ^ k + b) * (suc s * 2 ^ k + b) < 4 * (n * (2 ^ k * 2 ^ k))
    under (yes g) l = short n (suc s) (2 ^ k) b some g l
    under (no g) l = below n s (2 ^ k) b some r.above (last k b h s (larger s g) l)

-- ---- the root of a number above zero

pub whole-square : (n : ℕ) (e : ℤ) → T (fits binary64 (fin false (suc n) e)) → (m : ℕ) × (0 < m) × HasValue (fin false (suc n) e) false m (2 ^ 2148)
whole-square n e f =
    let x = fin false (suc n) e in
    let bits = pattern_of_finite n e f in
    let sp = spread (to_bits binary64 x) bits.0 bits.1 in (
      sp.0 * 2 ^ sp.1,
      mul-pos (lt_of_lt_of_le (lit< tt) sp.2.low) (pow_pos sp.1),
      subst (λ (z : Float). HasValue z false (sp.0 * 2 ^ sp.1) (2 ^ 2148)) (of_bits-to_bits binary64 x f) sp.2.number,
    )

pub square_root_nearest : (x : Float) (m : ℕ) → T (fits binary64 x) → 0 < m → HasValue x false m (2 ^ 2148) → NearestRoot m (square_root x)
square_root_nearest x m f p v =
    let bits = pattern_of-value x m (2 ^ 2148) f p v in
    let sp = spread (to_bits binary64 x) bits.0 bits.1 in
    let t = sp.0 in
    let y = sp.1 in
    let same : t * 2 ^ y ≡ m = value_unique x false (t * 2 ^ y) m (2 ^ 2148) (subst (λ (z : Float). HasValue z false (t * 2 ^ y) (2 ^ 2148)) (of_bits-to_bits binary64 x f) sp.2.number) v in
    let z = root_at t y sp.2.low sp.2.high sp.2.least sp.2.most in
    let n = t * 2 ^ (52 + y % 2) in
    let s = nearest_root 53 n in
    let k = y / 2 - 26 in
    let is : square_root x ≡ of_bits binary64 (k * 2 ^ 52 + s) = root_of-value x m p v ∙ ap root_units (sym same) ∙ z.number in
    record {
      size = s * 2 ^ k;
      value = subst (λ (r : Float). Units r false (s * 2 ^ k)) (sym is) (units-high (k * 2 ^ 52 + s) k s refl z.low z.high z.small);
      nearest = λ y b g w. subst (λ (a : ℕ). Nearer a (s * 2 ^ k) b) (sym z.whole ∙ same) (nearer n s k b z.nearest z.large z.low (held_digits binary64 y b g w));
    }

-- ---- any root is a number of the format

root_units-fits : (m : ℕ) → T (fits binary64 (root_units m))
unfolding root_units
root_units-fits m = let k = suc (size m) / 2 - 53 in units-fits (nearest_root 53 (m / 4 ^ k)) k (nearest_short 53 (m / 4 ^ k))

pub square_root-fits : (x : Float) → T (fits binary64 x) → T (fits binary64 (square_root x))
unfolding square_root
square_root-fits nan f = f
square_root-fits (inf true) f = nan-fits binary64
square_root-fits (inf false) f = f
square_root-fits (fin s zero e) f = f
square_root-fits (fin true (suc m) e) f = nan-fits binary64
square_root-fits (fin false (suc m) e) f = root_units-fits (suc m * up e * 2 ^ 2148 / down e)

-- ---- nothing else is correct

apart : (m a b : ℕ) → a < b → Nearer m a b → Nearer m b a → ⊥
apart m a b h r q = omega (arith, r.over h, q.under h)

not_above : {a b : ℕ} → (b < a → ⊥) → a ≤ b
not_above h = le_of_suc-le-suc (lt_of_not-le h)

pub square_root_only : (x z : Float) (m : ℕ) → T (fits binary64 x) → T (fits binary64 z) → 0 < m → HasValue x false m (2 ^ 2148) → NearestRoot m z → z ≡ square_root x
square_root_only x z m f g p v c =
    let own = square_root_nearest x m f p v in
    let to : Nearer m own.size c.size = own.nearest z c.size g c.value in
    let fro : Nearer m c.size own.size = c.nearest (square_root x) own.size (square_root-fits x f) own.value in
    let same : c.size ≡ own.size = le_antisymm (not_above (λ h. apart m own.size c.size h to fro)) (not_above (λ h. apart m c.size own.size h fro to)) in
    same_value binary64 z (square_root x) false own.size (2 ^ 1074) (pow_pos 1074) g (square_root-fits x f) (subst (λ (a : ℕ). Units z false a) same c.value) own.value
