-- The bit pattern of a root, from its significand and exponent.
use mathlib.Core.Path.{◌≡◌, refl, sym, ◌∙◌, subst}
use mathlib.Core.Bool.{Bool, true, false, cond}
use Prim.Native.Nat.{ℕ, zero, suc, ◌+◌, ◌-◌, ◌*◌, ◌/◌, ◌%◌, ◌^◌, ◌≤◌, ◌<◌, suc-le-suc}
use native.Mathlib.Nat.{mul-pos, lt_of_lt_of_le, lt_of_le_of_lt, le_of_lt}
use native.Mathlib.Omega.{arith}
use lib.Dec.{T, ltb, ltb→lt, lit<}
use lib.Pow.{pow_pos, pow_mono, shl_lt}
use lib.Ieee.{inf, binary64, odd, units, fits, of_bits}
use lib.Ieee.Bits.{of_bits-fits}
use lib.Ieee.Exact.{units_val}
use lib.Ieee.Fits.{odd-fits, inf-fits}
use Rattle.root.specs.WholeRoot.{nearest_root}
use Rattle.root.specs.Steps.{Nearest}
use Rattle.root.specs.SquareRoot.{root_units}
use Rattle.root.specs.Steps.{Spread, Rooted}
use Rattle.root.proofs.WholeRoot.{nearest_root_lem, nearest_unique, below_nearest, above_nearest}
use Rattle.laws.proofs.Same.{same_value}
use Rattle.laws.proofs.Pattern.{units-high}
use Rattle.root.proofs.Scale.{root_of-value, radicand, scaled_root}

-- ---- the word and the whole number under the root: the 53 digits, with 52 or 53 zeros behind them

by_parity : (P : ℕ → Type 0) → P 0 → P 1 → (y : ℕ) → P (y % 2)
by_parity P even odd y = go (y % 2) (omega arith)
  where
    go : (p : ℕ) → p < 2 → P p
    go zero h = even
    go (suc zero) h = odd
    go (suc (suc p)) h = absurd (over p h)
      where
        over : (p : ℕ) → suc (suc p) < 2 → ⊥
        over p h = omega arith

word_is : (t : ℕ) → t < 2 ^ 53 → (y : ℕ) → t * 2 ^ (10 + y % 2) % 2 ^ 64 * 2 ^ 42 ≡ t * 2 ^ (52 + y % 2)
word_is t h = by_parity (λ p. t * 2 ^ (10 + p) % 2 ^ 64 * 2 ^ 42 ≡ t * 2 ^ (52 + p)) (omega arith) (omega arith)

radicand_low : (t : ℕ) → 2 ^ 52 ≤ t → (y : ℕ) → 2 ^ 104 ≤ t * 2 ^ (52 + y % 2)
radicand_low t h = by_parity (λ p. 2 ^ 104 ≤ t * 2 ^ (52 + p)) (omega arith) (omega arith)

radicand_high : (t : ℕ) → t < 2 ^ 53 → (y : ℕ) → t * 2 ^ (52 + y % 2) ≤ (2 ^ 53 - 1) * 2 ^ 53
radicand_high t h = by_parity (λ p. t * 2 ^ (52 + p) ≤ (2 ^ 53 - 1) * 2 ^ 53) (omega arith) (omega arith)

pub word_some : (t : ℕ) → 2 ^ 52 ≤ t → t < 2 ^ 53 → (y : ℕ) → 0 < t * 2 ^ (10 + y % 2) % 2 ^ 64
word_some t lo hi y = some (t * 2 ^ (10 + y % 2) % 2 ^ 64) (t * 2 ^ (52 + y % 2)) (word_is t hi y) (radicand_low t lo y)
  where
    some : (w n : ℕ) → w * 2 ^ 42 ≡ n → 2 ^ 104 ≤ n → 0 < w
    some w n e h = omega arith

-- ---- the significand has 53 digits

pub significand_low : (n s : ℕ) → 2 ^ 104 ≤ n → Nearest n s → 2 ^ 52 ≤ s
significand_low n s h r = above_nearest n (2 ^ 52) s (omega arith) r

pub significand_high : (n s : ℕ) → n ≤ (2 ^ 53 - 1) * 2 ^ 53 → Nearest n s → s < 2 ^ 53
significand_high n s h r = suc-le-suc (below_nearest n (2 ^ 53 - 1) s h r)

-- ---- its pattern

in_range_lem : (s k : ℕ) → s < 2 ^ 53 → k < 2046 → s * 2 ^ k < 2 ^ 2098
in_range_lem s k h l = lt_of_lt_of_le (shl_lt 53 k h) (pow_mono (enough k l))
  where
    enough : (k : ℕ) → k < 2046 → 53 + k ≤ 2098
    enough k l = omega arith

pub units-fits : (s k : ℕ) → s ≤ 2 ^ 53 → T (fits binary64 (units binary64 false s k))
unfolding units
units-fits s k h = go (ltb (s * 2 ^ k) (2 ^ 2098)) (ltb→lt (s * 2 ^ k) (2 ^ 2098))
  where
    go : (b : Bool) → (T b → s * 2 ^ k < 2 ^ 2098) → T (fits binary64 (cond b (odd 54 false s k 1074) (inf false)))
    go true l = odd-fits binary64 54 false s k (lt_of_le_of_lt h (lit< tt)) h (l tt)
    go false l = inf-fits binary64 false

pub pattern_of : (s k : ℕ) → 2 ^ 52 ≤ s → s < 2 ^ 53 → k < 2046 → units binary64 false s k ≡ of_bits binary64 (k * 2 ^ 52 + s)
pattern_of s k lo hi l =
    same_value binary64 (units binary64 false s k) (of_bits binary64 (k * 2 ^ 52 + s)) false (s * 2 ^ k) (2 ^ 1074) (pow_pos 1074)
    (units-fits s k (le_of_lt hi))
    (of_bits-fits binary64 (k * 2 ^ 52 + s))
    (units_val binary64 false s k (in_range_lem s k hi l))
    (units-high (k * 2 ^ 52 + s) k s refl lo hi l)

-- ---- the root of t * 2 ^ y units squared

exponent : (y : ℕ) → y < 3120 → y / 2 - 26 < 2046
exponent y h = omega arith

enough : (y : ℕ) → 1022 ≤ y → 52 ≤ y
enough y h = omega arith

finite : (s k : ℕ) → s < 2 ^ 53 → k < 2046 → k * 2 ^ 52 + s < 0x7ff0_0000_0000_0000
finite s k h l = omega arith

-- The root of m units squared is s * 2 ^ k units, s being the whole number nearest to the root of n.
pub record Root (m n s k : ℕ) : Type 0 where
  pub whole : m ≡ n * (2 ^ k * 2 ^ k)
  pub large : 2 ^ 104 ≤ n
  pub nearest : Nearest n s
  pub low : 2 ^ 52 ≤ s
  pub high : s < 2 ^ 53
  pub small : k < 2046
  pub number : root_units m ≡ of_bits binary64 (k * 2 ^ 52 + s)

own_nearest : (n : ℕ) → 2 ^ 104 ≤ n → n ≤ (2 ^ 53 - 1) * 2 ^ 53 → Nearest n (nearest_root 53 n)
own_nearest n lo hi = nearest_root_lem 53 n (lt_of_lt_of_le (lit< tt) lo) (lt_of_le_of_lt hi (lit< tt))

pub root_at : (t y : ℕ) → 2 ^ 52 ≤ t → t < 2 ^ 53 → 1022 ≤ y → y < 3120
    → Root (t * 2 ^ y) (t * 2 ^ (52 + y % 2)) (nearest_root 53 (t * 2 ^ (52 + y % 2))) (y / 2 - 26)
root_at t y lo hi l m =
    let n = t * 2 ^ (52 + y % 2) in
    let near : Nearest n (nearest_root 53 n) = own_nearest n (radicand_low t lo y) (radicand_high t hi y) in
    let s-lo : 2 ^ 52 ≤ nearest_root 53 n = significand_low n (nearest_root 53 n) (radicand_low t lo y) near in
    let s-hi : nearest_root 53 n < 2 ^ 53 = significand_high n (nearest_root 53 n) (radicand_high t hi y) near in
    record {
      whole = radicand t y (enough y l);
      large = radicand_low t lo y;
      nearest = near;
      low = s-lo;
      high = s-hi;
      small = exponent y m;
      number = scaled_root t y lo hi (enough y l) ∙ pattern_of (nearest_root 53 n) (y / 2 - 26) s-lo s-hi (exponent y m);
    }

-- ---- the pattern that the code makes

pub rooted : (b t y like s : ℕ) → Spread b t y like → Nearest (t * 2 ^ (10 + y % 2) % 2 ^ 64 * 2 ^ 42) s → Rooted b ((y / 2 - 26) * 2 ^ 52 + s)
rooted b t y like s x r =
    let n = t * 2 ^ (52 + y % 2) in
    let z = root_at t y x.low x.high x.least x.most in
    let own : nearest_root 53 n ≡ s = nearest_unique n (nearest_root 53 n) s z.nearest (subst (λ (a : ℕ). Nearest a s) (word_is t x.high y) r) in
    subst (λ (a : ℕ). Rooted b ((y / 2 - 26) * 2 ^ 52 + a)) own
    (record {
      number = sym (root_of-value (of_bits binary64 b) (t * 2 ^ y) (mul-pos (lt_of_lt_of_le (lit< tt) x.low) (pow_pos y)) x.number ∙ z.number);
      finite = finite _ (y / 2 - 26) z.high z.small;
    })
