-- The samples and the cells of the hunt of depth k, as `hunted` of the crate hunt visits them.
use Rattle.std.specs.Prelude.{ℕ, Bool, Float}
use Rattle.laws.specs.Part.{part}
use Rattle.curves.specs.declared.Arc.{Arc}
use Rattle.arc.specs.Frame.{arc_radii}
use Rattle.hunt_bracket.specs.declared.Cell.{Cell}
use Rattle.hunt_bracket.specs.Frame.{frame, value}
use Rattle.hunt.specs.Cells.{cells, span, sample, closing_cell, cell}
use Rattle.hunt.specs.Hunt.{early}

abbrev pub sample_at : Arc → ℕ → ℕ → Float
sample_at a k i = sample a.start (part (span a) (cells k)) i

abbrev pub cell_at : Arc → Arc → ℕ → ℕ → Cell
cell_at a b k i = cell (frame a b) a.start (part (span a) (cells k)) (closing_cell k) i

-- the inside-outside value of an angle
abbrev pub value_of : Arc → Arc → Float → Float
value_of a b = value (frame a b)

-- whether a test ends the call before the first sample
abbrev pub ends : Arc → Arc → Bool
ends a b = early (arc_radii b) (span a)
