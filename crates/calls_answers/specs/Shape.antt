-- 01, 'Forms': "If an answer is an enum, a definition states this paper's number and values for each of the enum's cases." 01, the table of refusals: 5 "the Rust answers `None` in arc
-- conversion, three-point arc, tangent circle or conic fit". The mark ccw is a count, 1 or 0.
use Rattle.std.specs.Prelude.{ℕ, Bool, cond, [], ◌∷◌, Option, Result}
use Rattle.shapes.specs.declared.Near.{Near}
use Rattle.shapes.specs.declared.Converted.{Converted}
use Rattle.shapes.specs.declared.Circumscribed.{Circumscribed}
use Rattle.shapes.specs.declared.Circle.{Circle}
use Rattle.shapes.specs.declared.Fitted.{Fitted}
use Rattle.checks.specs.declared.Refusal.{Refusal}
use Rattle.checks.specs.Refusal.{accepted, degenerate}
use Rattle.checks.specs.Answer.{Answer, values, told, told_or}

abbrev pub mark : Bool → ℕ
mark b = cond b 1 0

-- ---- what is given back
abbrev pub near_told : Near → Answer
near_told n = values (n.dist ∷ n.pos.x ∷ n.pos.y ∷ [])

abbrev pub converted_told : Converted → Answer
converted_told c = values (c.center.x ∷ c.center.y ∷ c.start ∷ c.end ∷ c.rx ∷ c.ry ∷ [])

abbrev pub circumscribed_told : Circumscribed → Answer
circumscribed_told c = record { refusal = accepted; numbers = c.center.x ∷ c.center.y ∷ c.radius ∷ c.start ∷ c.end ∷ []; counts = mark c.ccw ∷ [] }

abbrev pub circle_told : Circle → Answer
circle_told c = values (c.center.x ∷ c.center.y ∷ c.radius ∷ [])

abbrev pub ellipse_told : Fitted → Answer
ellipse_told f =
    record {
      refusal = accepted;
      numbers = f.center.x ∷ f.center.y ∷ f.rx ∷ f.ry ∷ f.rotation ∷ f.start ∷ f.end ∷ [];
      counts = mark f.ccw ∷ [];
    }

-- ---- what the layers find, and where the Rust answers `None`
abbrev pub conversion_told : Option Converted → Answer
conversion_told = told_or degenerate converted_told

abbrev pub three_point_told : Option Circumscribed → Answer
three_point_told = told_or degenerate circumscribed_told

abbrev pub tangent_circle_told : Option Circle → Answer
tangent_circle_told = told_or degenerate circle_told

abbrev pub fit_told : Option Fitted → Answer
fit_told = told_or degenerate ellipse_told

-- ---- what each call answers
abbrev pub distance_told : Result Near Refusal → Answer
distance_told = told near_told

abbrev pub center_told : Result Converted Refusal → Answer
center_told = told converted_told

abbrev pub through_told : Result Circumscribed Refusal → Answer
through_told = told circumscribed_told

abbrev pub tangent_told : Result Circle Refusal → Answer
tangent_told = told circle_told

abbrev pub fitted_told : Result Fitted Refusal → Answer
fitted_told = told ellipse_told
