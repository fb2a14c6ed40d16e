-- WHICH CELLS BRACKET AT WHICH DEPTH, read off the definition: at depth 0 those of the Rust; from depth 1 on the last cell also where its end value is 0, and no other cell.
use mathlib.Core.Path.{◌≡◌, refl}
use mathlib.Core.Bool.{Bool, true, false, cond, ◌||◌, or-false}
use Prim.Native.Nat.{ℕ, suc, ◌<◌}
use native.Mathlib.Omega.{arith}
use borrow.Author.Tests.{eq-eqb, ne_eqb}
use lib.Dec.{eqb}
use lib.Ieee.{Float, eq}
use Rattle.std.specs.Prelude.{Option, Some, None}
use Rattle.laws.specs.Literal.{zero}
use Rattle.laws.proofs.Logic.{cond_above}
use Rattle.hunt_bracket.specs.declared.Frame.{Frame}
use Rattle.hunt_bracket.specs.Frame.{value}
use Rattle.hunt.specs.Cells.{cells, sample, bracket, closing_cell, is_closing, cell, brackets}

pub closing_none : closing_cell 0 ≡ None
unfolding closing_cell
closing_none = refl

pub closing_last : (k : ℕ) → 0 < k → closing_cell k ≡ Some (cells k)
unfolding closing_cell
closing_last k h = cond_above k None (Some (cells k)) h

-- a cell before the last closes at no depth
not_closing : (k i : ℕ) → suc i < cells k → is_closing (closing_cell k) (suc i) ≡ false
unfolding closing_cell
not_closing k i h = go (eqb k 0)
  where
    go : (b : Bool) → is_closing (cond b None (Some (cells k))) (suc i) ≡ false
    go true = refl
    go false = ne_eqb (suc i) (cells k) (λ (e : suc i ≡ cells k). absurd (omega arith))

module _ (f : Frame) (start step : Float) where
  abbrev first : ℕ → Float
  first i = value f (sample start step i)

  abbrev second : ℕ → Float
  second i = value f (sample start step (suc i))

  pub brackets_open : (closing : Option ℕ) (i : ℕ) → is_closing closing (suc i) ≡ false → brackets (cell f start step closing i) ≡ bracket (first i) (second i)
  unfolding brackets cell
  brackets_open closing i h = rw h (or-false (bracket (first i) (second i)))

  -- depth 0 is the Rust's in every cell
  pub brackets_depth_0 : (i : ℕ) → brackets (cell f start step (closing_cell 0) i) ≡ bracket (first i) (second i)
  brackets_depth_0 i = rw closing_none (brackets_open None i refl)

  -- and so is every depth in the cells before the last
  pub brackets_inner : (k i : ℕ) → suc i < cells k → brackets (cell f start step (closing_cell k) i) ≡ bracket (first i) (second i)
  brackets_inner k i h = brackets_open (closing_cell k) i (not_closing k i h)

  -- K5's rule, whatever the first value
  pub brackets-last : (k i : ℕ) → 0 < k → suc i ≡ cells k → brackets (cell f start step (closing_cell k) i) ≡ bracket (first i) (second i) || eq (second i) zero
  unfolding brackets cell
  brackets-last k i p e = rw (closing_last k p, eq-eqb (suc i) (cells k) e)
