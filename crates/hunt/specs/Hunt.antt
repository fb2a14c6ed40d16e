-- 01, 'Span and crossings': "Depth 0 is the Rust's; depths 1 to 3 are added. The test `step.abs() < 1e-15` uses the step of depth 0 at every depth." "N + 1 + 61 for each bracket,
-- and 0 when an early test ends the call." 000, `intersect_arcs`, from its first ellipse test on.
use Rattle.std.specs.Prelude.{ℕ, Bool, cond, ◌||◌, Float}
use Rattle.std.specs.Float.Ieee.{lt}
use Rattle.laws.specs.Literal.{ten⁻¹², ten⁻¹⁵}
use Rattle.laws.specs.Size.{abs}
use Rattle.laws.specs.Part.{part}
use Rattle.curves.specs.declared.Arc.{Arc}
use Rattle.curves.specs.declared.Radii.{Radii}
use Rattle.arc.specs.Frame.{arc_radii}
use Rattle.hunt_bracket.specs.Frame.{frame}
use Rattle.hunt.specs.Cells.{cells, span, closing_cell}
use Rattle.hits.specs.Outcome.{Outcome, none}
use Rattle.hunt.specs.Visits.{scanned}

-- `rb_a < 1e-12 || rb_b < 1e-12`, `step.abs() < 1e-15`
unfoldable pub early : Radii → Float → Bool
early r span = lt r.a ten⁻¹² || (lt r.b ten⁻¹² || lt (abs (part span 256)) ten⁻¹⁵)

-- all cells of depth k
abbrev pub searched : Arc → Arc → ℕ → Outcome
searched a b k = scanned (frame a b) a.start (part (span a) (cells k)) (closing_cell k) (cells k)

-- THE HUNT of depth k
unfoldable pub hunted : Arc → Arc → ℕ → Outcome
hunted a b k = cond (early (arc_radii b) (span a)) none (searched a b k)
