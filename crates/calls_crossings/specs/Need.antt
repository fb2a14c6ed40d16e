-- 01, 'Numbers taken and numbers given back': "The need is 4 numbers for two segments, 8 for segment and arc or two circles, 1,024 times 2^depth where an ellipse takes part in an
-- arc pair." In hits: one, two, and one in each cell.
use Rattle.std.specs.Prelude.{ℕ, cond, ◌||◌}
use Rattle.curves.specs.declared.Arc.{Arc}
use Rattle.hunt.specs.Cells.{cells}

abbrev pub segments_hits : ℕ
segments_hits = 1

abbrev pub closed_hits : ℕ
closed_hits = 2

unfoldable pub pair_hits : Arc → Arc → ℕ → ℕ
pair_hits a b depth = cond (a.is_ellipse || b.is_ellipse) (cells depth) closed_hits
