-- A product below zero has factors of unlike signs, for any two numbers: a product that is lost to underflow is a zero, and one with a NaN is not below zero.
use mathlib.Core.Path.{◌≡◌}
use mathlib.Core.Bool.{Bool, true, false, cond}
use Prim.Native.Nat.{ℕ, zero as nought, suc, ◌+◌, ◌*◌, ◌≤◌, ◌<◌}
use native.Mathlib.Nat.{mul-pos, zero-lt-suc}
use native.Mathlib.Omega.{arith}
use lib.IntN.{ℤ}
use lib.Dec.{T, eqb}
use lib.Ieee.{Float, nan, inf, fin, binary64, mul, lt, le, fits}
use lib.Ieee.Fits.{up_pos}
use lib.Ieee.Scale.{finite}
use lib.Ieee.Positive.{den, den_pos}
use Rattle.laws.specs.Literal as literal
use Rattle.laws.specs.Literal.{zero_datum as zero}
use Rattle.laws.proofs.Constants.{zero_bits}
use Rattle.laws.proofs.Fraction.{plus, less, cross→lt}
use Rattle.laws.proofs.Order.{finite_number, not-both, lt→le}
use Rattle.laws.proofs.Rounding.{not_below_lem}
use Rattle.laws.proofs.Operations.{mul_rounds}
use Rattle.laws.proofs.Monotone.{not_negative, not-positive}
use Rattle.laws.proofs.Sign.{Side, below, at, above, side}

data Parted (a b : Float) : Type 0 where
  up : T (lt a zero) → T (lt zero b) → Parted a b
  down : T (lt zero a) → T (lt b zero) → Parted a b

-- ---- with an infinity: the other is no zero, or the product would be a NaN
above_some : (n : ℕ) (d : ℤ) → T (lt zero (fin false (suc n) d))
above_some n d = let p = mul-pos (zero-lt-suc n) (up_pos d) in cross→lt zero (fin false (suc n) d) tt tt (omega arith)

below-some : (n : ℕ) (d : ℤ) → T (lt (fin true (suc n) d) zero)
below-some n d = let p = mul-pos (zero-lt-suc n) (up_pos d) in cross→lt (fin true (suc n) d) zero tt tt (omega arith)

infinite : (b s : Bool) → T (lt (cond b nan (inf s)) zero) → T s
unfolding lt
infinite true s h = absurd h
infinite false s h = h

-- ---- of two finite numbers
module _ (a b : Float) (p : T (finite a)) (q : T (finite b)) where
  not_below_zero : plus a * less b + less a * plus b ≤ plus a * plus b + less a * less b → T (le zero (mul binary64 a b))
  not_below_zero h =
      not_below_lem binary64 zero (mul binary64 a b) (plus a * plus b + less a * less b) (plus a * less b + less a * plus b)
      (den a * den b) (unfold fits in tt) tt (mul-pos (den_pos a) (den_pos b)) (mul_rounds binary64 a b p q) (omega arith)

  zero_beside : T (le b zero) → T (le zero b) → T (lt (mul binary64 a b) zero) → ⊥
  zero_beside k l h =
      let i : plus b ≡ 0 = not-positive b q k in
      let j : less b ≡ 0 = not_negative b q l in
      not-both (mul binary64 a b) zero h (not_below_zero (rw (i, j) (omega arith)))

  by_sides : Side a → Side b → T (lt (mul binary64 a b) zero) → Parted a b
  by_sides (below k) (above l) h = up k l
  by_sides (above k) (below l) h = down k l
  by_sides (above k) (above l) h =
      let i : less a ≡ 0 = not_negative a p (lt→le zero a k) in
      let j : less b ≡ 0 = not_negative b q (lt→le zero b l) in
      absurd (not-both (mul binary64 a b) zero h (not_below_zero (rw (i, j) (omega arith))))
  by_sides (below k) (below l) h =
      let i : plus a ≡ 0 = not-positive a p (lt→le a zero k) in
      let j : plus b ≡ 0 = not-positive b q (lt→le b zero l) in
      absurd (not-both (mul binary64 a b) zero h (not_below_zero (rw (i, j) (omega arith))))
  by_sides (at k l) s h =
      let i : plus a ≡ 0 = not-positive a p k in
      let j : less a ≡ 0 = not_negative a p l in
      absurd (not-both (mul binary64 a b) zero h (not_below_zero (rw (i, j) (omega arith))))
  by_sides (below k) (at l m) h = absurd (zero_beside l m h)
  by_sides (above k) (at l m) h = absurd (zero_beside l m h)

parted : (a b : Float) → T (lt (mul binary64 a b) zero) → Parted a b
unfolding mul lt
parted nan b h = absurd h
parted (inf s) nan h = absurd h
parted (inf true) (inf true) h = absurd h
parted (inf true) (inf false) h = up tt tt
parted (inf false) (inf true) h = down tt tt
parted (inf false) (inf false) h = absurd h
parted (inf s) (fin t nought d) h = absurd h
parted (inf true) (fin true (suc n) d) h = absurd (infinite (eqb (suc n) 0) false h)
parted (inf true) (fin false (suc n) d) h = up tt (above_some n d)
parted (inf false) (fin true (suc n) d) h = down tt (below-some n d)
parted (inf false) (fin false (suc n) d) h = absurd (infinite (eqb (suc n) 0) false h)
parted (fin s m e) nan h = absurd h
parted (fin s nought e) (inf t) h = absurd h
parted (fin true (suc m) e) (inf true) h = absurd (infinite (eqb (suc m) 0) false h)
parted (fin true (suc m) e) (inf false) h = up (below-some m e) tt
parted (fin false (suc m) e) (inf true) h = down (above_some m e) tt
parted (fin false (suc m) e) (inf false) h = absurd (infinite (eqb (suc m) 0) false h)
parted (fin s m e) (fin t n d) h = by_sides (fin s m e) (fin t n d) tt tt (side (fin s m e) (finite_number (fin s m e) tt)) (side (fin t n d) (finite_number (fin t n d) tt)) h

-- THE LAW, of the zero that a program tests against
pub data Unlike (a b : Float) : Type 0 where
  rises : T (lt a literal.zero) → T (lt literal.zero b) → Unlike a b
  falls : T (lt literal.zero a) → T (lt b literal.zero) → Unlike a b

pub product-below-zero : (a b : Float) → T (lt (mul binary64 a b) literal.zero) → Unlike a b
product-below-zero a b h = go (parted a b (rw zero_bits at h))
  where
    go : Parted a b → Unlike a b
    go (up k l) = rises (rw zero_bits k) (rw zero_bits l)
    go (down k l) = falls (rw zero_bits k) (rw zero_bits l)
