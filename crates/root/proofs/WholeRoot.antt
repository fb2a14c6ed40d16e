-- `floor_root` is the whole part of the root, and `nearest_root` the whole number nearest to it. There is only one of each.
use mathlib.Core.Path.{◌≡◌, sym, subst}
use mathlib.Core.Bool.{Bool, true, false, not, cond}
use Prim.Native.Nat.{ℕ, zero, suc, ◌+◌, ◌-◌, ◌*◌, ◌/◌, ◌^◌, ◌≤◌, ◌<◌, compare, Ordering}
use native.Mathlib.Nat.{pow-succ', le_antisymm, le_trans, le_dest, lt_of_not-le, le_of_suc-le-suc}
use native.Mathlib.Omega.{arith}
use lib.Dec.{T, is_le, compare_is_eq, leb, eqb, leb→le, nleb→lt, eqb→eq, eqb_refl, lit<}
use lib.Arith.{lt_of_le-ne}
use lib.Ieee.{nearest}
use lib.Ieee.Fits.{nearest-le}
use Rattle.root.specs.WholeRoot.{digit, floor_root, closer, nearest_root}
use Rattle.root.specs.Steps.{Nearest}

-- ---- the whole part of the root

-- q is it
pub record Floor (n q : ℕ) : Type 0 where
  pub low : q * q ≤ n
  pub high : n < suc q * suc q

digit_floor : (n q : ℕ) → Floor (n / 4) q → Floor n (digit n q)
unfolding digit
digit_floor n q f = go (leb (suc (2 * q) * suc (2 * q)) n) (leb→le (suc (2 * q) * suc (2 * q)) n) (nleb→lt (suc (2 * q) * suc (2 * q)) n)
  where
    one-high : (q r n : ℕ) → r < suc q * suc q → n < 4 * r + 4 → n < suc (suc (2 * q)) * suc (suc (2 * q))
    one-high q r n h l = omega arith

    zero-low : (q r n : ℕ) → q * q ≤ r → 4 * r ≤ n → 2 * q * (2 * q) ≤ n
    zero-low q r n h l = omega arith

    go : (b : Bool) → (T b → suc (2 * q) * suc (2 * q) ≤ n) → (T (not b) → n < suc (2 * q) * suc (2 * q)) → Floor n (cond b (suc (2 * q)) (2 * q))
    go true y n' = record { low = y tt; high = one-high q (n / 4) n f.high (omega arith) }
    go false y n' = record { low = zero-low q (n / 4) n f.low (omega arith); high = n' tt }

quarter_lt : (n p : ℕ) → n < 4 * p → n / 4 < p
quarter_lt n p h = omega arith

pub floor_root_lem : (k n : ℕ) → n < 4 ^ k → Floor n (floor_root k n)
unfolding floor_root
floor_root_lem zero n h = record { low = omega arith; high = omega arith }
floor_root_lem (suc k) n h = digit_floor n (floor_root k (n / 4)) (floor_root_lem k (n / 4) (quarter_lt n (4 ^ k) (rw pow-succ' at h)))

digit_lt : (n q p : ℕ) → q < p → digit n q < 2 * p
unfolding digit
digit_lt n q p h = go (leb (suc (2 * q) * suc (2 * q)) n)
  where
    go : (b : Bool) → cond b (suc (2 * q)) (2 * q) < 2 * p
    go true = omega arith
    go false = omega arith

floor_lt : (k n : ℕ) → floor_root k n < 2 ^ k
unfolding floor_root
floor_lt zero n = lit< tt
floor_lt (suc k) n = rw pow-succ' (digit_lt n (floor_root k (n / 4)) (2 ^ k) (floor_lt k (n / 4)))

-- ---- the nearest whole number

pub up : (n q r : ℕ) → q * q + r ≡ n → r ≤ 2 * q → q < r → Nearest n (suc q)
up n q r e l h = record { above = omega arith; below = omega arith }

pub down : (n q r : ℕ) → q * q + r ≡ n → r ≤ q → 0 < n → Nearest n q
down n zero r e h p = record { above = omega arith; below = omega arith }
down n (suc q) r e h p = record { above = omega arith; below = omega arith }

-- what `compare` says
abbrev Compared : Ordering → ℕ → ℕ → Type 0
Compared Ordering.lt a b = a < b
Compared Ordering.eq a b = a ≡ b
Compared Ordering.gt a b = b < a

compared : (a b : ℕ) → Compared (compare a b) a b
compared a b = go (compare a b) (leb→le a b) (nleb→lt a b) (eqb→eq a b) (λ (e : a ≡ b). subst (λ (x : ℕ). T (eqb a x)) e (eqb_refl a))
  where
    go : (o : Ordering) → (T (is_le o) → a ≤ b) → (T (not (is_le o)) → b < a) → (T (compare_is_eq o) → a ≡ b) → (a ≡ b → T (compare_is_eq o)) → Compared o a b
    go Ordering.lt h k e n = lt_of_le-ne (h tt) n
    go Ordering.eq h k e n = e tt
    go Ordering.gt h k e n = k tt

-- 4 * r is never 4 * q + 1: no whole number's root lies in the middle
pub no_tie : (r q : ℕ) → 4 * r ≡ 4 * q + 1 → ⊥
no_tie r q e = omega arith

closer_nearest : (n q : ℕ) → 0 < n → Floor n q → Nearest n (closer n q)
closer_nearest n q p f = go (compare (4 * (n - q * q)) (4 * q + 1)) (compared (4 * (n - q * q)) (4 * q + 1))
  where
    whole : (n a : ℕ) → a ≤ n → a + (n - a) ≡ n
    whole n a h = omega arith

    rest_le : (n q : ℕ) → n < suc q * suc q → n - q * q ≤ 2 * q
    rest_le n q h = omega arith

    more : (r q : ℕ) → 4 * q + 1 < 4 * r → q < r
    more r q h = omega arith

    fewer : (r q : ℕ) → 4 * r < 4 * q + 1 → r ≤ q
    fewer r q h = omega arith

    go : (o : Ordering) → Compared o (4 * (n - q * q)) (4 * q + 1) → Nearest n (nearest q o)
    go Ordering.lt h = down n q (n - q * q) (whole n (q * q) f.low) (fewer (n - q * q) q h) p
    go Ordering.eq h = absurd (no_tie (n - q * q) q h)
    go Ordering.gt h = up n q (n - q * q) (whole n (q * q) f.low) (rest_le n q f.high) (more (n - q * q) q h)

pub nearest_root_lem : (k n : ℕ) → 0 < n → n < 4 ^ k → Nearest n (nearest_root k n)
unfolding nearest_root
nearest_root_lem k n p h = closer_nearest n (floor_root k n) p (floor_root_lem k n h)

pub nearest_short : (k n : ℕ) → nearest_root k n ≤ 2 ^ k
unfolding nearest_root
nearest_short k n = le_trans (nearest-le (floor_root k n) (compare (4 * (n - floor_root k n * floor_root k n)) (4 * floor_root k n + 1))) (floor_lt k n)

-- ---- and only that

over : (n s d : ℕ) → n ≤ s * s + s → (suc s + d) * (suc s + d) < n + (suc s + d) → ⊥
over n s d h l = omega arith

apart : (n s t : ℕ) → n ≤ s * s + s → t * t < n + t → t ≤ s
apart n s t h l = le_of_suc-le-suc (lt_of_not-le (λ (g : suc s ≤ t). over n s (le_dest g).0 h (subst (λ (x : ℕ). x * x < n + x) (sym (le_dest g).1) l)))

pub below_nearest : (n p s : ℕ) → n ≤ p * p + p → Nearest n s → s ≤ p
below_nearest n p s h r = apart n p s h r.above

pub above_nearest : (n p s : ℕ) → p * p < n + p → Nearest n s → p ≤ s
above_nearest n p s h r = apart n s p r.below h

pub nearest_unique : (n s t : ℕ) → Nearest n s → Nearest n t → s ≡ t
nearest_unique n s t a b = le_antisymm (below_nearest n t s b.below a) (above_nearest n t s b.above a)
