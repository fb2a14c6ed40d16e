-- 000, `intersect_arcs`: "Circle-circle goes through the closed-form two-circle construction; any pair involving an ellipse falls back to sampling".
use Rattle.std.specs.Prelude.{ℕ, cond, ◌||◌}
use Rattle.curves.specs.declared.Arc.{Arc}
use Rattle.hits.specs.Listed.{listed}
use Rattle.crossing.specs.Circles.{intersect_circle_circle}
use Rattle.hits.specs.Outcome.{Outcome, closed}
use Rattle.hunt.specs.Hunt.{hunted}

unfoldable pub pair_outcome : Arc → Arc → ℕ → Outcome
pair_outcome a b depth = cond (a.is_ellipse || b.is_ellipse) (hunted a b depth) (closed (listed (intersect_circle_circle a b)))
