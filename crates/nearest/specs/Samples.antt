-- 000, `point_to_ellipse_dist` and `nearest_arc_param`: `for i in 0..=n { let t = sa + span * (i as f64 / n as f64); .. if d < best_d { best_d = d; best_t = t; } }`, with n = 64
-- and n = 128. The first of equally near samples stays.
use Rattle.std.specs.Prelude.{ℕ, zero as nought, suc, ◌+◌, cond, pos, Float}
use Rattle.std.specs.Float.{binary64}
use Rattle.std.specs.Float.Ieee.{of_int, lt}
use Rattle.laws.specs.Rounded.{◌⊕◌, ◌⊗◌, ◌⊘◌}
use Rattle.laws.specs.Literal.{largest}
use Rattle.curves.specs.declared.Point.{Point}
use Rattle.curves.specs.declared.Arc.{Arc}
use Rattle.arc.specs.ArcPoint.{arc_point_at}
use Rattle.nearest.specs.declared.samples.Best.{Best}
use Rattle.nearest.specs.Squared.{squared_dist}

abbrev pub sample : Arc → Float → ℕ → ℕ → Float
sample a span n i = a.start ⊕ span ⊗ (of_int binary64 (pos i) ⊘ of_int binary64 (pos n))

unfoldable pub closer : Arc → Point → Float → Best → Best
closer a p t best =
    let d = squared_dist p (arc_point_at a t) in
    cond (lt d best.d) (record { t = t; d = d }) best

-- the best of the first k samples
unfoldable pub sampled : Arc → Point → Float → ℕ → ℕ → Best
sampled a p span n nought = record { t = a.start; d = largest }
sampled a p span n (suc k) = closer a p (sample a span n k) (sampled a p span n k)

-- the best of all, the last being at the end of the span: `0..=n`
abbrev pub best_of : Arc → Point → Float → ℕ → Best
best_of a p span n = sampled a p span n (n + 1)
