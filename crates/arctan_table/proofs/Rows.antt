-- Each row of the table against Euler's series, over its whole cell.
use mathlib.Core.Path.{◌≡◌, refl, sym, ◌∙◌, subst}
use mathlib.Core.Logic.{⊎_elim}
use mathlib.Core.Bool.{Bool, true, ◌&&◌}
use mathlib.Core.List.{List, [], ◌∷◌}
use Prim.Native.Nat.{ℕ, zero, suc, ◌+◌, ◌-◌, ◌*◌, ◌≤◌, ◌<◌, ◌^◌}
use native.Mathlib.Nat.{add-zero, add-suc, suc-add, le_of_suc-le-suc, not-suc-le-zero}
use native.Mathlib.Omega.{arith}
use lib.Dec.{T, leb}
use lib.Ieee.Fits.{and_l, and_r}
use Rattle.series.specs.Poly.{eval, plus, scale, times, total, weigh}
use Rattle.series.specs.Shift.{head, head_shift, step}
use Rattle.series.specs.Near.{gap}
use Rattle.laws.proofs.Logic.{le-or-lt}
use Rattle.arctan_table.specs.Table.{Coef, more, less, Coefs, table, coefs_at}
use Rattle.arctan_table.proofs.Cell.{off_by}
use Rattle.arctan_table.proofs.Quotient.{top, bottom, sums, grow, power, square, euler, euler_from, odds}

-- ---- a row as two polynomials of whole numbers, what is added and what is taken away
unfoldable pub coef_list : Coefs → List Coef
coef_list r = r.k0 ∷ r.k1 ∷ r.k2 ∷ r.k3 ∷ r.k4 ∷ r.k5 ∷ r.k6 ∷ r.k7 ∷ r.k8 ∷ r.k9 ∷ []

unfoldable pub added : Coef → ℕ
added (more n) = n
added (less n) = 0

unfoldable pub taken : Coef → ℕ
taken (more n) = 0
taken (less n) = n

unfoldable pub each : (Coef → ℕ) → List Coef → List ℕ
each f [] = []
each f (c ∷ l) = f c ∷ each f l

unfoldable pub first : List ℕ → ℕ
first [] = 0
first (a ∷ p) = a

-- ---- the test: over the cell the row and the series differ by at most 2 ^ -47
unfoldable pub scale_of : ℕ
scale_of = 2 ^ 53 * 32 ^ 9

unfoldable pub close_by : List ℕ → List ℕ → ℕ → ℕ → List ℕ → List ℕ → Bool
unfolding off_by first scale_of
close_by n b N B kp km = leb 1 (first b) && leb (off_by n b N B scale_of kp km * 2 ^ 47) (scale_of * first b)

unfoldable pub row_close : List ℕ → List ℕ → ℕ → Coefs → Bool
unfolding close_by head_shift weigh each coef_list
row_close t b j r =
    close_by (head_shift 24 j t) (head_shift 24 j b) (eval t (j + 1)) (eval b (j + 1)) (weigh 32 9 (each added (coef_list r))) (weigh 32 9 (each taken (coef_list r)))

-- the rows from j on, n of them
unfoldable pub rows_close : List ℕ → List ℕ → ℕ → ℕ → Bool
unfolding row_close
rows_close t b j zero = true
rows_close t b j (suc n) = row_close t b j (coefs_at j) && rows_close t b (suc j) n

-- THE TEST of all rows, by elevens: one run of it would take too much memory
close_0 : rows_close top bottom 0 11 ≡ true
unfolding rows_close row_close close_by off_by first scale_of weigh each coef_list added taken coefs_at table top bottom sums grow power square
    euler euler_from odds head head_shift times plus gap eval total step scale
close_0 = refl

close_11 : rows_close top bottom 11 11 ≡ true
unfolding rows_close row_close close_by off_by first scale_of weigh each coef_list added taken coefs_at table top bottom sums grow power square
    euler euler_from odds head head_shift times plus gap eval total step scale
close_11 = refl

close_22 : rows_close top bottom 22 11 ≡ true
unfolding rows_close row_close close_by off_by first scale_of weigh each coef_list added taken coefs_at table top bottom sums grow power square
    euler euler_from odds head head_shift times plus gap eval total step scale
close_22 = refl

-- ---- what it says of one row
rows_at : (t b : List ℕ) (n j k : ℕ) → T (rows_close t b j n) → k < n → T (row_close t b (j + k) (coefs_at (j + k)))
unfolding rows_close
rows_at t b zero j k h i = absurd (not-suc-le-zero i)
rows_at t b (suc n) j zero h i =
    subst (λ (m : ℕ). T (row_close t b m (coefs_at m))) (sym (add-zero j)) (and_l (row_close t b j (coefs_at j)) (rows_close t b (suc j) n) h)
rows_at t b (suc n) j (suc k) h i =
    subst (λ (m : ℕ). T (row_close t b m (coefs_at m))) (suc-add j k ∙ sym (add-suc j k))
    (rows_at t b n (suc j) k (and_r (row_close t b j (coefs_at j)) (rows_close t b (suc j) n) h) (le_of_suc-le-suc i))

eleven : (i j : ℕ) → rows_close top bottom i 11 ≡ true → i ≤ j → j < i + 11 → T (row_close top bottom j (coefs_at j))
eleven i j e h l =
    let b : i + (j - i) ≡ j = omega arith in
    subst (λ (m : ℕ). T (row_close top bottom m (coefs_at m))) b (rows_at top bottom 11 i (j - i) (subst (λ (x : Bool). T x) (sym e) tt) (omega arith))

pub row_close_lem : (j : ℕ) → j ≤ 32 → T (row_close top bottom j (coefs_at j))
row_close_lem j h =
    ⊎_elim (λ x. eleven 0 j close_0 (omega arith) (omega arith))
    (λ y. ⊎_elim (λ x. eleven 11 j close_11 (omega arith) (omega arith)) (λ z. eleven 22 j close_22 (omega arith) (omega arith)) (le-or-lt j 21))
    (le-or-lt j 10)
