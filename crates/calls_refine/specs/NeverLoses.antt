-- Demand 3: "if every inside-outside value that the two hunts work out is zero or of size 2^-53 to 2^200, each cell where the coarser brackets a crossing contains a cell where the
-- finer does; brackets never grow fewer; each, once narrowed, lies in its own cell and still has ends of opposite sign or an end at zero." Here of the counts t and t' that two answers
-- of `intersect_arcs` to one pair of arcs tell, at the depths k and k'.
use Rattle.std.specs.Prelude.{ℕ, ◌≤◌, false, ◌≡◌}
use Rattle.curves.specs.declared.Arc.{Arc}
use Rattle.hits.specs.declared.Tally.{Tally}
use Rattle.hunt_refine.specs.Levels.{ends}
use Rattle.hunt_refine.specs.Promise.{Worked, Contained, EachKept}

-- THE PREMISE: where a test ends the call before the first sample, nothing is worked out
pub record BothWorked (a b : Arc) (k k' : ℕ) : Type 0 where
  pub coarser : ends a b ≡ false → Worked a b k
  pub finer : ends a b ≡ false → Worked a b k'

-- what the two answers tell
pub record NeverLoses (a b : Arc) (k k' : ℕ) (t t' : Tally) : Type 0 where
  -- "each cell where the coarser brackets a crossing contains a cell where the finer does"
  pub contained : Contained a b k k'
  -- "brackets never grow fewer", as the answers tell them
  pub no_fewer : t.brackets ≤ t'.brackets
  -- "each, once narrowed, lies in its own cell and still has ends of opposite sign or an end at zero"
  pub coarser_kept : ends a b ≡ false → EachKept a b k
  pub finer_kept : ends a b ≡ false → EachKept a b k'
