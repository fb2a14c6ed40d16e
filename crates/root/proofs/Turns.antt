-- The arithmetic of a root by digits.
use mathlib.Core.Path.{◌≡◌}
use Prim.Native.Nat.{ℕ, ◌+◌, ◌*◌, ◌/◌, ◌%◌, ◌^◌, ◌≤◌, ◌<◌}
use native.Mathlib.Nat.{pow-succ', lt_of_lt_of_le}
use native.Mathlib.Numerals.{add-one}
use native.Mathlib.Omega.{arith}
use lib.Pow.{pow_mono}
use Rattle.root.specs.Steps.{Turned}

-- the number's digits and those to come, in one number, get two zeros
carried : (n w : ℕ) → (4 * n + w / 2 ^ 62) * 2 ^ 64 + w * 2 ^ 2 % 2 ^ 64 ≡ 4 * (n * 2 ^ 64 + w)
carried n w = omega arith

-- ---- the loop: after i turns

pub record Taken (word i root rest left : ℕ) : Type 0 where
  pub short : root < 2 ^ i
  pub least : rest ≤ 2 * root
  pub fits : left < 2 ^ 64
  pub number : (root * root + rest) * 2 ^ 64 + left ≡ word * 4 ^ i

one_more_lem : (q q' a : ℕ) → q < a → q' ≤ 2 * q + 1 → q' < 2 * a
one_more_lem q q' a h g = omega arith

pub taken : (word i q r w q' r' w' : ℕ) → Taken word i q r w → Turned q r w q' r' w' → Taken word (i + 1) q' r' w'
taken word i q r w q' r' w' t n = record {
  short = rw (add-one, pow-succ') (one_more_lem q q' (2 ^ i) t.short n.grown);
  least = n.least;
  fits = rw n.moved (omega arith);
  number =
      rw (n.number, n.moved, carried, t.number, add-one, pow-succ')
      (omega arith);
}

pub bounded : (word i q r w : ℕ) → i ≤ 53 → Taken word i q r w → q < 2 ^ 53
bounded word i q r w a t = lt_of_lt_of_le t.short (pow_mono a)
