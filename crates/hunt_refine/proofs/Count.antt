-- If each of n coarse cells that passes contains a fine cell that passes, then no fewer fine cells pass than coarse ones.
use mathlib.Core.Path.{◌≡◌, refl, ap, ◌∙◌}
use mathlib.Core.Logic.{◌⊎◌, inl, inr}
use mathlib.Core.Bool.{Bool, true, false, cond}
use mathlib.Core.List.{List, [], ◌∷◌, ◌++◌}
use Prim.Native.Nat.{ℕ, zero as nought, suc, ◌+◌, ◌*◌, ◌≤◌, ◌<◌}
use native.Mathlib.Nat.{le_refl, eq-or-lt_of_le}
use native.Mathlib.Omega.{arith}
use lib.Dec.{T}
use Rattle.std.specs.Prelude.{Option}
use lib.Ieee.Bits.{is_true}
use lib.Ieee.{Float}
use Rattle.hunt_bracket.specs.declared.Frame.{Frame}
use Rattle.hunt_bracket.specs.declared.Cell.{Cell}
use Rattle.hunt.specs.Cells.{brackets, cell, first_cells, bracketed}
use Rattle.hunt_refine.proofs.Run.{Found}

abbrev pub tally : Bool → ℕ
tally b = cond b 1 0

-- of the first n places, how many pass p
unfoldable pub count : (ℕ → Bool) → ℕ → ℕ
count p nought = 0
count p (suc n) = count p n + tally (p n)

pub count_none : (p : ℕ → Bool) → count p 0 ≡ 0
unfolding count
count_none p = refl

pub count_more : (p : ℕ → Bool) (n : ℕ) → count p (suc n) ≡ count p n + tally (p n)
unfolding count
count_more p n = refl

pub count_mono : (p : ℕ → Bool) (a b : ℕ) → a ≤ b → count p a ≤ count p b
count_mono p a nought h = let e : a ≡ 0 = omega arith in rw e (le_refl (count p 0))
count_mono p a (suc b) h = go (eq-or-lt_of_le h) (count_mono p a b)
  where
    go : (a ≡ suc b) ⊎ (a < suc b) → (a ≤ b → count p a ≤ count p b) → count p a ≤ count p (suc b)
    go (inl e) r = rw e (le_refl (count p (suc b)))
    go (inr l) r = omega (arith, count_more p b, r (omega arith))

-- a cell that passes between a and b is counted
pub count-found : (p : ℕ → Bool) (a b : ℕ) → Found p a b → count p a < count p b
count-found p a b f =
    let i = f.place in
    let e : count p (suc i) ≡ count p i + 1 = rw (count_more p i, is_true (p i) f.passes) in
    omega (arith, count_mono p a i f.after, count_mono p (suc i) b f.before)

module _ (p q : ℕ → Bool) (m : ℕ) where
  pub count_refines : (n : ℕ) → ((i : ℕ) → i < n → T (p i) → Found q (m * i) (m * suc i)) → count p n ≤ count q (m * n)
  count_refines nought h = omega (arith, count_none p)
  count_refines (suc n) h = go (p n) refl (count_refines n (λ (i : ℕ) (l : i < n) (t : T (p i)). h i (omega arith) t))
    where
      more : m * n ≤ m * suc n
      more = omega arith

      go : (b : Bool) → p n ≡ b → count p n ≤ count q (m * n) → count p (suc n) ≤ count q (m * suc n)
      go true e r = omega (arith, count_more p n, ap tally e, count-found q (m * n) (m * suc n) (h n (omega arith) (rw e tt)))
      go false e r = omega (arith, count_more p n, ap tally e, count_mono q (m * n) (m * suc n) more)

-- ---- the brackets of a list of cells, counted by their places
bracketed_more : (cs : List Cell) (c : Cell) → bracketed (cs ++ c ∷ []) ≡ bracketed cs + tally (brackets c)
unfolding bracketed
bracketed_more [] c = omega arith
bracketed_more (d ∷ cs) c = omega (arith, bracketed_more cs c)

pub bracketed-count : (f : Frame) (start step : Float) (closing : Option ℕ) (n : ℕ) → bracketed (first_cells f start step closing n) ≡ count (λ (i : ℕ). brackets (cell f start step closing i)) n
unfolding first_cells count
bracketed-count f start step closing nought = unfold bracketed in refl
bracketed-count f start step closing (suc n) =
    bracketed_more (first_cells f start step closing n) (cell f start step closing n)
    ∙ ap (λ (m : ℕ). m + tally (brackets (cell f start step closing n))) (bracketed-count f start step closing n)
