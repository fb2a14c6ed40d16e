-- 000, `point_to_ellipse_dist`: "Newton refinement (minimize squared distance), clamped to arc range", at most 8 steps, operation by operation.
use Rattle.std.specs.Prelude.{ℕ, zero as nought, suc, cond, Float}
use Rattle.std.specs.Float.Ieee.{lt, neg}
use Rattle.laws.specs.Rounded.{◌⊕◌, ◌⊖◌, ◌⊗◌, ◌⊘◌}
use Rattle.laws.specs.Literal.{two, four, ten⁻⁶, ten⁻²⁰}
use Rattle.laws.specs.Size.{abs}
use Rattle.scalar.specs.Clamp.{clamp}
use Rattle.curves.specs.declared.Point.{Point}
use Rattle.curves.specs.declared.Arc.{Arc}
use Rattle.arc.specs.ArcPoint.{arc_point_at}
use Rattle.nearest.specs.declared.newton.Slopes.{Slopes}
use Rattle.nearest.specs.Squared.{squared_dist}

abbrev pub dt : Float
dt = ten⁻⁶

-- `f`
abbrev pub slope : Point → Point → Point → Point → Float
slope p q qp qm = (p.x ⊖ q.x) ⊗ (qp.x ⊖ qm.x) ⊘ (two ⊗ dt) ⊕ (p.y ⊖ q.y) ⊗ (qp.y ⊖ qm.y) ⊘ (two ⊗ dt)

-- `df`
abbrev pub bend : Point → Point → Point → Point → Float
bend p q qp qm =
    neg (squared_dist qp qm) ⊘ (four ⊗ dt ⊗ dt)
    ⊕ (p.x ⊖ q.x) ⊗ (qp.x ⊖ two ⊗ q.x ⊕ qm.x) ⊘ (dt ⊗ dt)
    ⊕ (p.y ⊖ q.y) ⊗ (qp.y ⊖ two ⊗ q.y ⊕ qm.y) ⊘ (dt ⊗ dt)

unfoldable pub slopes_at : Arc → Point → Float → Slopes
slopes_at a p t =
    let q = arc_point_at a t in
    let qp = arc_point_at a (t ⊕ dt) in
    let qm = arc_point_at a (t ⊖ dt) in
    record { f = slope p q qp qm; df = bend p q qp qm }

-- at most so many steps: `if df.abs() < 1e-20 { break; } best_t = (best_t - f / df).clamp(t_min, t_max);`
unfoldable pub newton : Arc → Point → Float → Float → ℕ → Float → Float
newton a p tMin tMax nought t = t
newton a p tMin tMax (suc n) t =
    let s = slopes_at a p t in
    cond (lt (abs s.df) ten⁻²⁰) t (newton a p tMin tMax n (clamp (t ⊖ s.f ⊘ s.df) tMin tMax))
