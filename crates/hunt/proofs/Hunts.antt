-- What is proved of the hunt as a whole: its counts add up, and no second outcome satisfies its contract.
use mathlib.Core.Path.{◌≡◌, refl, sym, ◌∙◌}
use mathlib.Core.Bool.{Bool, true, false, cond}
use Prim.Native.Nat.{ℕ, ◌+◌, ◌*◌}
use lib.ListN.{length}
use lib.Ieee.{Float}
use Rattle.laws.specs.Part.{part}
use Rattle.curves.specs.declared.Arc.{Arc}
use Rattle.arc.specs.Frame.{arc_radii}
use Rattle.hunt_bracket.specs.declared.Frame.{Frame}
use Rattle.hunt_bracket.specs.Frame.{frame}
use Rattle.hunt.specs.Cells.{cells, span, closing_cell, first_cells, bracketed}
use Rattle.hits.specs.Outcome.{none}
use Rattle.hunt.specs.Visits.{fates}
use Rattle.hunt.specs.Hunt.{early, searched, hunted}
use Rattle.hunt.proofs.Outcomes.{scanned-brackets, scanned-fates, scanned-angles}

-- the tests before the first sample, as the code makes them
pub hunted_test : (a b : Arc) (f : Frame) (s : Float) (r c : Bool) → f ≡ frame a b → s ≡ span a → r ≡ early f.radii s → r ≡ c → early (arc_radii b) (span a) ≡ c
unfolding frame
hunted_test a b f s r c p q u v = sym (rw (p, q) at u) ∙ v

module _ (a b : Arc) (k : ℕ) where
  pub hunted-early : early (arc_radii b) (span a) ≡ true → hunted a b k ≡ none
  unfolding hunted
  hunted-early e = rw e

  pub hunted_on : early (arc_radii b) (span a) ≡ false → hunted a b k ≡ searched a b k
  unfolding hunted
  hunted_on e = rw e

  -- "The answer holds brackets and the four fates, each counted by its own rule; the fates add up to the brackets."
  pub hunted-fates : fates (hunted a b k) ≡ (hunted a b k).brackets
  unfolding hunted
  hunted-fates = go (early (arc_radii b) (span a))
    where
      go : (e : Bool) → fates (cond e none (searched a b k)) ≡ (cond e none (searched a b k)).brackets
      go true = refl
      go false = scanned-fates (frame a b) a.start (part (span a) (cells k)) (closing_cell k) (cells k)

  -- "N + 1 + 61 for each bracket, and 0 when an early test ends the call."
  pub hunted_evaluations : early (arc_radii b) (span a) ≡ false → length (hunted a b k).angles ≡ cells k + 1 + 61 * (hunted a b k).brackets
  hunted_evaluations e = rw (hunted_on e) (scanned-angles (frame a b) a.start (part (span a) (cells k)) (closing_cell k) (cells k))

  pub hunted-nothing : early (arc_radii b) (span a) ≡ true → length (hunted a b k).angles ≡ 0
  hunted-nothing e = rw (hunted-early e)

  -- the brackets are those of the list of cells
  pub hunted-brackets : early (arc_radii b) (span a) ≡ false → (hunted a b k).brackets ≡ bracketed (first_cells (frame a b) a.start (part (span a) (cells k)) (closing_cell k) (cells k))
  hunted-brackets e = rw (hunted_on e) (scanned-brackets (frame a b) a.start (part (span a) (cells k)) (closing_cell k) (cells k))
