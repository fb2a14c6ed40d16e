-- NO SECOND OUTCOME of the calls of parts 7 to 9: an answer is fixed by what it tells.
use mathlib.Core.Path.{◌≡◌, refl, sym, ap, ◌∙◌}
use mathlib.Core.Bool.{Bool, true, false}
use Prim.Native.Nat.{ℕ}
use lib.Dec.{eqb}
use lib.ListN.{get_or}
use lib.Ieee.{Float, nan}
use Rattle.std.specs.Prelude.{Result}
use Rattle.shapes.specs.declared.Near.{Near}
use Rattle.shapes.specs.declared.Converted.{Converted}
use Rattle.shapes.specs.declared.Circumscribed.{Circumscribed}
use Rattle.shapes.specs.declared.Circle.{Circle}
use Rattle.shapes.specs.declared.Fitted.{Fitted}
use Rattle.checks.specs.declared.Refusal.{Refusal}
use Rattle.checks.specs.Answer.{Answer}
use Rattle.checks.proofs.Outcomes.{told_unique}
use Rattle.calls_answers.specs.Shape.{mark, near_told, converted_told, circumscribed_told, circle_told, ellipse_told, distance_told, center_told, through_told, tangent_told, fitted_told}

-- ---- what was given back, read from what is told

abbrev at : Answer → ℕ → Float
at a i = get_or a.numbers i nan

abbrev marked : Answer → Bool
marked a = eqb (get_or a.counts 0 0) 1

mark-back : (b : Bool) → eqb (mark b) 1 ≡ b
mark-back true = refl
mark-back false = refl

abbrev near : Answer → Near
near a = record { dist = at a 0; pos = record { x = at a 1; y = at a 2 } }

abbrev converted : Answer → Converted
converted a = record { center = record { x = at a 0; y = at a 1 }; start = at a 2; end = at a 3; rx = at a 4; ry = at a 5 }

abbrev circumscribed : Answer → Circumscribed
circumscribed a = record { center = record { x = at a 0; y = at a 1 }; radius = at a 2; start = at a 3; end = at a 4; ccw = marked a }

abbrev circle : Answer → Circle
circle a = record { center = record { x = at a 0; y = at a 1 }; radius = at a 2 }

abbrev ellipse : Answer → Fitted
ellipse a = record { center = record { x = at a 0; y = at a 1 }; rx = at a 2; ry = at a 3; rotation = at a 4; start = at a 5; end = at a 6; ccw = marked a }

-- ---- values that tell the same are the same

near_same : (x y : Near) → near_told x ≡ near_told y → x ≡ y
near_same x y e = ap near e

converted_same : (x y : Converted) → converted_told x ≡ converted_told y → x ≡ y
converted_same x y e = ap converted e

circle_same : (x y : Circle) → circle_told x ≡ circle_told y → x ≡ y
circle_same x y e = ap circle e

circumscribed_same : (x y : Circumscribed) → circumscribed_told x ≡ circumscribed_told y → x ≡ y
circumscribed_same x y e = sym (back x) ∙ ap circumscribed e ∙ back y
  where
    back : (z : Circumscribed) → circumscribed (circumscribed_told z) ≡ z
    back z = ap (λ (b : Bool). record { center = z.center; radius = z.radius; start = z.start; end = z.end; ccw = b }) (mark-back z.ccw)

ellipse_same : (x y : Fitted) → ellipse_told x ≡ ellipse_told y → x ≡ y
ellipse_same x y e = sym (back x) ∙ ap ellipse e ∙ back y
  where
    back : (z : Fitted) → ellipse (ellipse_told z) ≡ z
    back z = ap (λ (b : Bool). record { center = z.center; rx = z.rx; ry = z.ry; rotation = z.rotation; start = z.start; end = z.end; ccw = b }) (mark-back z.ccw)

-- ---- two answers that a contract allows are one

module _ (a : Answer) where
  pub distance_unique : (r s : Result Near Refusal) → distance_told r ≡ a → distance_told s ≡ a → r ≡ s
  distance_unique r s p q = told_unique near_told (record { accepts = λ _. refl; whole = near_same }) r s (p ∙ sym q)

  pub center_unique : (r s : Result Converted Refusal) → center_told r ≡ a → center_told s ≡ a → r ≡ s
  center_unique r s p q = told_unique converted_told (record { accepts = λ _. refl; whole = converted_same }) r s (p ∙ sym q)

  pub through_unique : (r s : Result Circumscribed Refusal) → through_told r ≡ a → through_told s ≡ a → r ≡ s
  through_unique r s p q = told_unique circumscribed_told (record { accepts = λ _. refl; whole = circumscribed_same }) r s (p ∙ sym q)

  pub tangent_unique : (r s : Result Circle Refusal) → tangent_told r ≡ a → tangent_told s ≡ a → r ≡ s
  tangent_unique r s p q = told_unique circle_told (record { accepts = λ _. refl; whole = circle_same }) r s (p ∙ sym q)

  pub fitted_unique : (r s : Result Fitted Refusal) → fitted_told r ≡ a → fitted_told s ≡ a → r ≡ s
  fitted_unique r s p q = told_unique ellipse_told (record { accepts = λ _. refl; whole = ellipse_same }) r s (p ∙ sym q)
