-- K5's rule with the rest: a cell that closes and ends at zero contains a finer cell that does, and its values straddle zero.
use mathlib.Core.Path.{◌≡◌, sym, ap, ◌∙◌}
use mathlib.Core.Logic.{inl, inr}
use mathlib.Core.Bool.{Bool, ◌&&◌, ◌||◌}
use Prim.Native.Nat.{ℕ, suc, ◌+◌, ◌-◌, ◌*◌, ◌≤◌, ◌<◌}
use native.Mathlib.Nat.{mul-suc}
use native.Mathlib.Omega.{arith}
use lib.Dec.{T}
use lib.Ieee.{Float, lt, eq}
use lib.Ieee.Fits.{and_i, and_l, and_r}
use Rattle.std.specs.Prelude.{Option}
use Rattle.laws.specs.Rounded.{◌⊗◌}
use Rattle.laws.specs.Literal.{zero}
use Rattle.laws.specs.Tame.{tame}
use Rattle.laws.proofs.Logic.{or_l, or_r, or_e}
use Rattle.hunt.specs.Cells.{is_closing}
use Rattle.hunt_refine.specs.Promise.{straddles}
use Rattle.hunt_refine.proofs.Three.{bracket-straddles}
use Rattle.hunt_refine.proofs.Run.{between, Found, refines}

-- cell i, of values v, where the cell that closes is the one before the sample `closing`
abbrev ends_at_zero : Option ℕ → (ℕ → Float) → ℕ → Bool
ends_at_zero closing v i = is_closing closing (suc i) && eq (v (suc i)) zero

abbrev pub passes : Option ℕ → (ℕ → Float) → ℕ → Bool
passes closing v i = between v i || ends_at_zero closing v i

-- a cell passes by the Rust's rule or by that of the last cell
pub data Rule (closing : Option ℕ) (v : ℕ → Float) (i : ℕ) : Type 0 where
  crossed : T (between v i) → Rule closing v i
  closed : T (is_closing closing (suc i)) → T (eq (v (suc i)) zero) → Rule closing v i

by_rule : (closing : Option ℕ) (v : ℕ → Float) (i : ℕ) → T (passes closing v i) → Rule closing v i
by_rule closing v i h = elim (or_e (between v i) (ends_at_zero closing v i) h) [
  | inl c ↦ crossed c
  | inr e ↦ closed (and_l (is_closing closing (suc i)) (eq (v (suc i)) zero) e) (and_r (is_closing closing (suc i)) (eq (v (suc i)) zero) e)
]

passes_rule : (closing : Option ℕ) (v : ℕ → Float) (i : ℕ) → Rule closing v i → T (passes closing v i)
passes_rule closing v i (crossed c) = or_l (between v i) (ends_at_zero closing v i) c
passes_rule closing v i (closed e z) = or_r (between v i) (ends_at_zero closing v i) (and_i (is_closing closing (suc i)) (eq (v (suc i)) zero) e z)

-- what passes straddles
pub passes_straddles : (closing : Option ℕ) (v : ℕ → Float) (i : ℕ) → T (tame (v i)) → T (tame (v (suc i))) → T (passes closing v i) → T (straddles (v i) (v (suc i)))
passes_straddles closing v i p q h = go (by_rule closing v i h)
  where
    go : Rule closing v i → T (straddles (v i) (v (suc i)))
    go (crossed c) = bracket-straddles (v i) (v (suc i)) p q c
    go (closed e z) = or_l (eq (v i) zero || eq (v (suc i)) zero) (lt (v i ⊗ v (suc i)) zero) (or_r (eq (v i) zero) (eq (v (suc i)) zero) z)

-- THE REFINEMENT with the rule: u is every m-th of v's values, and a coarse cell that closes has its end where a fine one closes
pub refines_closing : (u v : ℕ → Float) (m n : ℕ) (c c' : Option ℕ) → 0 < m → ((i : ℕ) → i ≤ n → u i ≡ v (m * i)) → ((j : ℕ) → j ≤ m * n → T (tame (v j)))
    → ((i : ℕ) → T (is_closing c (suc i)) → T (is_closing c' (m * suc i))) → (i : ℕ) → i < n → T (passes c u i) → Found (passes c' v) (m * i) (m * suc i)
refines_closing u v m n c c' P e t closes i l h = go (by_rule c u i h)
  where
    go : Rule c u i → Found (passes c' v) (m * i) (m * suc i)
    go (crossed k) =
        let f = refines u v m n P e t i l k in
        record { place = f.place; after = f.after; before = f.before; passes = passes_rule c' v f.place (crossed f.passes) }
    go (closed k z) =
        let place = m * suc i - 1 in
        let run : m * suc i ≡ m * i + m = mul-suc m i in
        let end : suc place ≡ m * suc i = omega arith in
        let same : v (suc place) ≡ u (suc i) = ap v end ∙ sym (e (suc i) l) in
        record { place = place; after = omega arith; before = omega arith; passes = passes_rule c' v place (closed (rw end (closes i k)) (rw same z)) }
