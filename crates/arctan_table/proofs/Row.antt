-- The law of one row of the table: over its cell it is within 2 ^ -47 of Euler's series.
use mathlib.Core.Path.{◌≡◌, refl, subst}
use mathlib.Core.List.{List, [], ◌∷◌}
use Prim.Native.Nat.{ℕ, zero, suc, ◌+◌, ◌*◌, ◌≤◌, ◌<◌, ◌^◌}
use native.Mathlib.Nat.{one-le-pow, mul_assoc, mul_left_comm, mul-one, zero-mul, mul-pos, mul-le-mul_left, mul-le-mul_right, le_refl, le_trans, lt_of_lt_of_le, pow-zero, pow-suc, mul-mul-mul_comm}
use native.Mathlib.Omega.{arith}
use lib.Dec.{leb, leb→le, lit≤}
use lib.ListN.{length}
use lib.Ieee.Fits.{and_l, and_r}
use Rattle.series.specs.Poly.{eval, plus, scale, times, value, weigh}
use Rattle.series.specs.Shift.{head_shift}
use Rattle.series.specs.Near.{Near}
use Rattle.series.proofs.Heads.{head_below}
use Rattle.arctan_table.specs.Table.{Coef, Coefs, coefs_at}
use Rattle.arctan_table.proofs.Cell.{off_by, cell_law}
use Rattle.arctan_table.proofs.Quotient.{top, bottom, sums, grow, power, square, euler, euler_from, odds}
use Rattle.arctan_table.proofs.Rows.{coef_list, added, taken, each, first, scale_of, close_by, row_close, row_close_lem}

pub mul_power : (a b n : ℕ) → (a * b) ^ n ≡ a ^ n * b ^ n
mul_power a b zero = rw (pow-zero (a * b), pow-zero a, pow-zero b) refl
mul_power a b (suc n) =
    rw (pow-suc (a * b) n, pow-suc a n, pow-suc b n, mul_power a b n) (mul-mul-mul_comm (a ^ n) (b ^ n) a b)

weigh_bottom : (n : ℕ) (p : List ℕ) (a d : ℕ) → value n (weigh 32 n p) a d ≡ value n p a (32 * d)
unfolding value weigh
weigh_bottom n [] a d = refl
weigh_bottom zero (x ∷ p) a d = refl
weigh_bottom (suc n) (x ∷ p) a d =
    rw (weigh_bottom n p a d, mul_power 32 d (suc n), mul_assoc x (32 ^ suc n) (d ^ suc n)) refl

first_below : (n : ℕ) (p : List ℕ) (a d : ℕ) → first p * d ^ n ≤ value n p a d
unfolding value first
first_below n [] a d = rw (zero-mul (d ^ n)) (le_refl 0)
first_below zero (x ∷ p) a d = rw (pow-zero d, mul-one x) (le_refl x)
first_below (suc n) (x ∷ p) a d = omega arith

-- ---- the law
unfoldable pub added_at : ℕ → List ℕ
added_at j = each added (coef_list (coefs_at j))

unfoldable pub taken_at : ℕ → List ℕ
taken_at j = each taken (coef_list (coefs_at j))

pub record RowLaw (j a d : ℕ) : Type 0 where
  pub off : ℕ
  pub small : 140737488355328 * off ≤ scale_of * (d ^ 9 * value 128 bottom (j * d + a) d)
  pub near : Near off (scale_of * (d ^ 9 * value 128 top (j * d + a) d)) 0
      (value 9 (added_at j) a (32 * d) * value 128 bottom (j * d + a) d) (value 9 (taken_at j) a (32 * d) * value 128 bottom (j * d + a) d)
  pub some : 0 < value 128 bottom (j * d + a) d

top_length : length top ≤ 129
unfolding top sums grow square times plus scale euler euler_from odds
top_length = lit≤ tt

bottom_length : length bottom ≤ 129
unfolding bottom power square times plus scale odds
bottom_length = lit≤ tt

ten : (f : Coef → ℕ) (r : Coefs) → length (weigh 32 9 (each f (coef_list r))) ≤ 10
unfolding weigh each coef_list
ten f r = lit≤ tt

tighten : (o k s f e g B : ℕ) → o * k ≤ s * f → f * g ≤ B → k * (o * (e * g)) ≤ s * (e * B)
tighten o k s f e g B h i =
    let a : o * k * (e * g) ≤ s * f * (e * g) = mul-le-mul_right (e * g) h in
    let b : s * (e * (f * g)) ≤ s * (e * B) = mul-le-mul_left s (mul-le-mul_left e i) in
    let c : k * (o * (e * g)) ≡ o * k * (e * g) = simp (mul_assoc, mul_left_comm) in
    let d : s * f * (e * g) ≡ s * (e * (f * g)) = simp (mul_assoc, mul_left_comm) in
    omega arith

pub row_law : (j a d : ℕ) → j ≤ 32 → a ≤ d → 0 < d → RowLaw j a d
unfolding row_close close_by added_at taken_at
row_law j a d hj h D =
    let l = coef_list (coefs_at j) in
    let x = head_shift 24 j top in
    let y = head_shift 24 j bottom in
    let kp = weigh 32 9 (each added l) in
    let km = weigh 32 9 (each taken l) in
    let N = eval top (j + 1) in
    let B = eval bottom (j + 1) in
    let o = off_by x y N B scale_of kp km in
    let c = row_close_lem j hj in
    let c₁ : 1 ≤ first y = leb→le 1 (first y) (and_l (leb 1 (first y)) (leb (o * 2 ^ 47) (scale_of * first y)) c) in
    let c₂ : o * 2 ^ 47 ≤ scale_of * first y = leb→le (o * 2 ^ 47) (scale_of * first y) (and_r (leb 1 (first y)) (leb (o * 2 ^ 47) (scale_of * first y)) c) in
    let f : first y * d ^ 128 ≤ value 128 bottom (j * d + a) d = le_trans (first_below 128 y a d) (head_below 128 24 j bottom a d bottom_length) in
    record {
      off = o * (d ^ 9 * d ^ 128);
      small = tighten o (2 ^ 47) scale_of (first y) (d ^ 9) (d ^ 128) (value 128 bottom (j * d + a) d) c₂ f;
      near =
          subst
          (λ (z : ℕ). Near (o * (d ^ 9 * d ^ 128)) (scale_of * (d ^ 9 * value 128 top (j * d + a) d)) 0
          (z * value 128 bottom (j * d + a) d) (value 9 (each taken l) a (32 * d) * value 128 bottom (j * d + a) d))
          (weigh_bottom 9 (each added l) a d)
          (subst (λ (z : ℕ). Near (o * (d ^ 9 * d ^ 128)) (scale_of * (d ^ 9 * value 128 top (j * d + a) d)) 0 (value 9 kp a d * value 128 bottom (j * d + a) d) (z * value 128 bottom (j * d + a) d))
          (weigh_bottom 9 (each taken l) a d)
          (cell_law 9 128 24 j a d scale_of top bottom kp km h top_length bottom_length (ten added (coefs_at j)) (ten taken (coefs_at j))));
      some = lt_of_lt_of_le (mul-pos c₁ (one-le-pow 128 d D)) f;
    }
