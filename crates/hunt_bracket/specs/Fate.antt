-- 01, 'Span and crossings': "Each bracket has one fate, tested in this order: outside a's span, outside b's span, double (some earlier hit with t_a nearer than 1e-7, the search
-- stopping at the first), hit." 000: `if !out.iter().any(|h| (h.t_a - ta).abs() < 1e-7)`.
use Rattle.std.specs.Prelude.{Bool, cond, Option, Some, None, List, [], ◌∷◌, Float}
use Rattle.std.specs.List.{list_any}
use Rattle.std.specs.Float.Ieee.{lt}
use Rattle.laws.specs.Rounded.{◌⊖◌}
use Rattle.laws.specs.Literal.{ten⁻⁷}
use Rattle.laws.specs.Size.{abs}
use Rattle.curves.specs.declared.Point.{Point}
use Rattle.arc.specs.Span.{arc_param_in_span}
use Rattle.hits.specs.declared.CurveHit.{CurveHit}
use Rattle.hits.specs.Hit.{hit_of}
use Rattle.hunt_bracket.specs.declared.Frame.{Frame}
use Rattle.hunt_bracket.specs.declared.Fate.{Fate}
use Rattle.hunt_bracket.specs.declared.Fate.TheVariants.{OutsideA, OutsideB, Double, Hit}
use Rattle.hunt_bracket.specs.Frame.{point, theta}

unfoldable pub near : Float → Float → Bool
near p q = lt (abs (p ⊖ q)) ten⁻⁷

-- whether one of the hits has its angle on a near t
unfoldable pub double : Float → List CurveHit → Bool
double t hs = list_any (λ h. near h.t_a t) hs

abbrev pub judged : List CurveHit → Point → Option Float → Option Float → Fate
judged hs pos None b = OutsideA
judged hs pos (Some ta) None = OutsideB
judged hs pos (Some ta) (Some tb) = cond (double ta hs) Double (Hit (hit_of ta tb pos))

-- of a bracket that was narrowed to the angle t, after the hits hs
unfoldable pub fate : Frame → List CurveHit → Float → Fate
fate f hs t =
    let pos = point f t in
    judged hs pos (arc_param_in_span f.a t) (arc_param_in_span f.b (theta f pos))

-- the hit of a fate
abbrev pub kept : Fate → List CurveHit
kept OutsideA = []
kept OutsideB = []
kept Double = []
kept (Hit h) = h ∷ []
