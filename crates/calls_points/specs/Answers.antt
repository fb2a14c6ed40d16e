-- 01, 'What a caller may conclude': "Each public call's contract determines the result". The answer of each call that gives back one number or two, by the call's name.
use Rattle.std.specs.Prelude.{List, [], ◌∷◌, ◌++◌, Float}
use Rattle.curves.specs.declared.Point.{Point}
use Rattle.curves.specs.declared.Arc.{Arc}
use Rattle.arc.specs.Ellipse.{ellipse_point, ellipse_tangent}
use Rattle.arc.specs.ArcPoint.{arc_point_at, arc_tangent_at, arc_start_pos, arc_end_pos}
use Rattle.arc.specs.Span.{norm_tau, arc_param_in_span}
use Rattle.arc.specs.Frame.{arc_radii, arc_theta_of_pos, arc_param_at_point}
use Rattle.segments.specs.Project.{point_to_segment_dist, project_onto_segment}
use Rattle.segments.specs.Lines.{line_line_intersection}
use Rattle.checks.specs.Given.{Given, coordinate, angle, point, arc_numbers}
use Rattle.checks.specs.Refusal.{numbers_refusal, outside_span}
use Rattle.checks.specs.Answer.{Answer, answered, values, withheld, told_or}

-- a call with neither depth nor room is refused by its numbers alone
abbrev pub one_number : List Given → Float → Answer
one_number gs x = answered (numbers_refusal gs) (x ∷ []) []

abbrev pub position : List Given → Point → Answer
position gs p = answered (numbers_refusal gs) (p.x ∷ p.y ∷ []) []

-- ---- points and tangents
unfoldable pub ellipse_point_answer : Point → Float → Float → Float → Float → Answer
ellipse_point_answer center rx ry rot t = position (point center ++ coordinate rx ∷ coordinate ry ∷ angle rot ∷ angle t ∷ []) (ellipse_point center rx ry rot t)

unfoldable pub ellipse_tangent_answer : Float → Float → Float → Float → Answer
ellipse_tangent_answer rx ry rot t = position (coordinate rx ∷ coordinate ry ∷ angle rot ∷ angle t ∷ []) (ellipse_tangent rx ry rot t)

unfoldable pub arc_point_at_answer : Arc → Float → Answer
arc_point_at_answer a t = position (arc_numbers a ++ angle t ∷ []) (arc_point_at a t)

unfoldable pub arc_tangent_at_answer : Arc → Float → Answer
arc_tangent_at_answer a t = position (arc_numbers a ++ angle t ∷ []) (arc_tangent_at a t)

unfoldable pub arc_start_pos_answer : Arc → Answer
arc_start_pos_answer a = position (arc_numbers a) (arc_start_pos a)

unfoldable pub arc_end_pos_answer : Arc → Answer
arc_end_pos_answer a = position (arc_numbers a) (arc_end_pos a)

-- ---- lines
unfoldable pub point_to_segment_dist_answer : Point → Point → Point → Answer
point_to_segment_dist_answer p a b = one_number (point p ++ point a ++ point b) (point_to_segment_dist p a b)

unfoldable pub project_onto_segment_answer : Point → Point → Point → Answer
project_onto_segment_answer p a b = position (point p ++ point a ++ point b) (project_onto_segment p a b)

unfoldable pub line_line_intersection_answer : Point → Point → Point → Point → Answer
line_line_intersection_answer p1 p2 p3 p4 = position (point p1 ++ point p2 ++ point p3 ++ point p4) (line_line_intersection p1 p2 p3 p4)

-- ---- spans and parameters
unfoldable pub norm_tau_answer : Float → Answer
norm_tau_answer v = one_number (angle v ∷ []) (norm_tau v)

-- outside the span, after the numbers' own refusals
unfoldable pub arc_param_in_span_answer : Arc → Float → Answer
arc_param_in_span_answer a theta =
    withheld (numbers_refusal (arc_numbers a ++ angle theta ∷ [])) (told_or outside_span (λ t. values (t ∷ [])) (arc_param_in_span a theta))

unfoldable pub arc_radii_answer : Arc → Answer
arc_radii_answer a = answered (numbers_refusal (arc_numbers a)) ((arc_radii a).a ∷ (arc_radii a).b ∷ []) []

unfoldable pub arc_theta_of_pos_answer : Arc → Point → Answer
arc_theta_of_pos_answer a p = one_number (arc_numbers a ++ point p) (arc_theta_of_pos a p)

unfoldable pub arc_param_at_point_answer : Arc → Point → Answer
arc_param_at_point_answer a p = one_number (arc_numbers a ++ point p) (arc_param_at_point a p)
