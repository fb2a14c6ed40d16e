-- 01, 'What a caller may conclude': "Each public call's contract determines the result". The answer of each call of parts 7 to 9, by the call's name.
use Rattle.std.specs.Prelude.{Bool, List, [], ◌∷◌, ◌++◌, Float}
use Rattle.curves.specs.declared.Point.{Point}
use Rattle.curves.specs.declared.Arc.{Arc}
use Rattle.nearest.specs.ArcDist.{point_to_arc_dist}
use Rattle.nearest.specs.ArcParam.{nearest_arc_param}
use Rattle.construct.specs.Conversion.{svg_arc_to_center}
use Rattle.construct.specs.Circumscribed.{circumscribed_arc}
use Rattle.construct.specs.TangentCircle.{circle_tangent_through}
use Rattle.earc_fit.specs.Fit.{fit_earc_tangent}
use Rattle.checks.specs.Given.{Given, coordinate, angle, point, arc_numbers}
use Rattle.checks.specs.Refusal.{numbers_refusal}
use Rattle.checks.specs.Answer.{Answer, answered, withheld}
use Rattle.calls_answers.specs.Shape.{near_told, conversion_told, three_point_told, tangent_circle_told, fit_told}

-- what is found, where the call's numbers are in order: it has neither depth nor room
abbrev pub found : List Given → Answer → Answer
found gs told = withheld (numbers_refusal gs) told

-- ---- distances and nearest parameters
unfoldable pub point_to_arc_dist_answer : Point → Arc → Answer
point_to_arc_dist_answer p a = found (point p ++ arc_numbers a) (near_told (point_to_arc_dist p a))

unfoldable pub nearest_arc_param_answer : Arc → Point → Answer
nearest_arc_param_answer a p = answered (numbers_refusal (arc_numbers a ++ point p)) (nearest_arc_param a p ∷ []) []

-- ---- arcs and circles from points
unfoldable pub svg_arc_to_center_answer : Point → Point → Float → Float → Float → Bool → Bool → Answer
svg_arc_to_center_answer p1 p2 rx ry rotation large sweep =
    found (point p1 ++ point p2 ++ coordinate rx ∷ coordinate ry ∷ angle rotation ∷ []) (conversion_told (svg_arc_to_center p1 p2 rx ry rotation large sweep))

unfoldable pub circumscribed_arc_answer : Point → Point → Point → Answer
circumscribed_arc_answer p1 p2 p3 = found (point p1 ++ point p2 ++ point p3) (three_point_told (circumscribed_arc p1 p2 p3))

-- t is a direction
unfoldable pub circle_tangent_through_answer : Point → Point → Point → Answer
circle_tangent_through_answer s e t = found (point s ++ point e ++ point t) (tangent_circle_told (circle_tangent_through s e t))

-- t1 and t2 are directions
unfoldable pub fit_earc_tangent_answer : Point → Point → Point → Point → Float → Answer
fit_earc_tangent_answer p1 t1 p2 t2 bulge = found (point p1 ++ point t1 ++ point p2 ++ point t2 ++ coordinate bulge ∷ []) (fit_told (fit_earc_tangent p1 t1 p2 t2 bulge))
