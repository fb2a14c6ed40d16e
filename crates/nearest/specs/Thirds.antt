-- 000, `nearest_arc_param`: "Golden-section-style shrink around the best sample", one turn and so many turns.
use Rattle.std.specs.Prelude.{ℕ, zero as nought, suc, cond, Float}
use Rattle.std.specs.Float.Ieee.{lt}
use Rattle.laws.specs.Rounded.{◌⊕◌, ◌⊖◌, ◌⊘◌}
use Rattle.laws.specs.Literal.{three}
use Rattle.scalar.specs.Extremes.{minimum, maximum}
use Rattle.curves.specs.declared.Point.{Point}
use Rattle.curves.specs.declared.Arc.{Arc}
use Rattle.arc.specs.ArcPoint.{arc_point_at}
use Rattle.nearest.specs.declared.thirds.Stretch.{Stretch}
use Rattle.nearest.specs.Squared.{squared_dist}

-- the stretch between two angles, in whichever order they come
abbrev pub between : Float → Float → Stretch
between s e = record { lo = minimum s e; hi = maximum s e }

unfoldable pub shrunk : Arc → Point → Stretch → Stretch
shrunk a p s =
    let m1 = s.lo ⊕ (s.hi ⊖ s.lo) ⊘ three in
    let m2 = s.hi ⊖ (s.hi ⊖ s.lo) ⊘ three in
    let d1 = squared_dist p (arc_point_at a m1) in
    let d2 = squared_dist p (arc_point_at a m2) in
    cond (lt d1 d2) (record { lo = s.lo; hi = m2 }) (record { lo = m1; hi = s.hi })

unfoldable pub thirds : Arc → Point → ℕ → Stretch → Stretch
thirds a p nought s = s
thirds a p (suc n) s = shrunk a p (thirds a p n s)
