-- A run of m cells: if its two ends bracket, one of its cells does. So each cell of a coarser grid that brackets contains a cell of a finer one that does.
use mathlib.Core.Path.{◌≡◌, sym, subst}
use mathlib.Core.Bool.{Bool}
use mathlib.Core.Logic.{◌⊎◌, inl, inr}
use Prim.Native.Nat.{ℕ, zero as nought, suc, ◌+◌, ◌*◌, ◌≤◌, ◌<◌}
use native.Mathlib.Nat.{mul-le-mul_left, mul-suc, lt_irrefl}
use native.Mathlib.Omega.{arith}
use lib.Dec.{T}
use lib.Ieee.{Float}
use Rattle.laws.specs.Tame.{tame}
use Rattle.hunt.specs.Cells.{bracket}
use Rattle.hunt_refine.proofs.Three.{three}

-- whether the values v i and v (i + 1) bracket
abbrev pub between : (ℕ → Float) → ℕ → Bool
between v i = bracket (v i) (v (suc i))

-- a place from a on, before b, that passes p
pub record Found (p : ℕ → Bool) (a b : ℕ) : Type 0 where
  pub place : ℕ
  pub after : a ≤ place
  pub before : place < b
  pub passes : T (p place)

run : (v : ℕ → Float) (a m : ℕ) → ((j : ℕ) → a ≤ j → j ≤ a + suc m → T (tame (v j))) → T (bracket (v a) (v (a + suc m))) → Found (between v) a (a + suc m)
run v a nought t h = record { place = a; after = omega arith; before = omega arith; passes = subst (λ (k : ℕ). T (bracket (v a) (v k))) (omega arith) h }
run v a (suc m) t h =
    let e : a + suc (suc m) ≡ suc (a + suc m) = omega arith in
    go (run v a m (λ (j : ℕ) (k : a ≤ j) (l : j ≤ a + suc m). t j k (omega arith)))
    (three (v a) (v (a + suc m)) (v (suc (a + suc m))) (t a (omega arith) (omega arith))
    (t (a + suc m) (omega arith) (omega arith)) (t (suc (a + suc m)) (omega arith) (omega arith))
    (subst (λ (k : ℕ). T (bracket (v a) (v k))) e h))
  where
    go : (T (bracket (v a) (v (a + suc m))) → Found (between v) a (a + suc m)) →
        T (bracket (v a) (v (a + suc m))) ⊎ T (bracket (v (a + suc m)) (v (suc (a + suc m)))) →
        Found (between v) a (a + suc (suc m))
    go r (inl p) = let f = r p in record { place = f.place; after = f.after; before = omega (arith, f.before); passes = f.passes }
    go r (inr p) = record { place = a + suc m; after = omega arith; before = omega arith; passes = p }

-- THE REFINEMENT: u is every m-th of v's values, and those are tame up to the end of the n-th coarse cell
pub refines : (u v : ℕ → Float) (m n : ℕ) → 0 < m → ((i : ℕ) → i ≤ n → u i ≡ v (m * i)) →
    ((j : ℕ) → j ≤ m * n → T (tame (v j))) → (i : ℕ) → i < n → T (between u i) → Found (between v) (m * i) (m * suc i)
refines u v nought n P e t i h c = absurd (lt_irrefl 0 P)
refines u v (suc m) n P e t i h c =
    let k : suc m * suc i ≡ suc m * i + suc m = mul-suc (suc m) i in
    let l : suc m * suc i ≤ suc m * n = mul-le-mul_left (suc m) h in
    subst (Found (between v) (suc m * i)) (sym k)
    (run v (suc m * i) m (λ (j : ℕ) (p : suc m * i ≤ j) (q : j ≤ suc m * i + suc m). t j (omega arith))
    (rw (← k, ← e i (omega arith), ← e (suc i) h) c))
