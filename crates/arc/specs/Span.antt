-- 01, 'Span and crossings': "`norm_tau` takes v % TAU and adds TAU if below 0." "A partial arc accepts an offset up to span + 1e-9, the span being the plain difference in the
-- arc's direction. The slack is past the end only." 000, `norm_tau`, `arc_param_in_span`.
use Rattle.std.specs.Prelude.{cond, Option, Some, None, Float}
use Rattle.std.specs.Float.{binary64}
use Rattle.std.specs.Float.Ieee.{rem, lt, le}
use Rattle.laws.specs.Rounded.{◌⊕◌, ◌⊖◌}
use Rattle.laws.specs.Literal.{zero, ten⁻⁹}
use Rattle.scalar.specs.Angles.{tau}
use Rattle.curves.specs.declared.Arc.{Arc}

unfoldable pub norm_tau : Float → Float
norm_tau v =
    let r = rem binary64 v tau in
    cond (lt r zero) (r ⊕ tau) r

-- an offset from the start that is at most the span and the slack is at `at`
unfoldable pub within : Float → Float → Float → Option Float
within off span at = cond (le off (span ⊕ ten⁻⁹)) (Some at) None

unfoldable pub arc_param_in_span : Arc → Float → Option Float
arc_param_in_span arc theta =
    let sa = arc.start in
    let ea = arc.end in
    cond arc.closed (Some (sa ⊕ norm_tau (theta ⊖ sa)))
    (cond arc.ccw
    (within (norm_tau (theta ⊖ sa)) (ea ⊖ sa) (sa ⊕ norm_tau (theta ⊖ sa)))
    (within (norm_tau (sa ⊖ theta)) (sa ⊖ ea) (sa ⊖ norm_tau (sa ⊖ theta))))
