-- The rule of the arctangent case by case.
use Rattle.std.proofs.Common.{◌≡◌, true, false, cond, ◌&&◌, ◌||◌, T, sym, refl, ◌∙◌}
use lib.Ieee.{Float, nan, binary64, fits, is_nan, neg, div}
use Rattle.laws.specs.Kind.{negative, is_ordinary}
use Rattle.arctan.specs.Rule.{edge_of, edge_size, slight, ratio, angle_of, steep_of, arctangent}
use Rattle.arctan.proofs.Tests.{tested, tested_is}
use Rattle.arctan.proofs.Slight.{quick, slight_is}

pub edge_nan : (y x : Float) → (is_nan y || is_nan x) ≡ true → edge_of y x ≡ nan
unfolding edge_of
edge_nan y x e = rw e refl

pub edge_number : (y x : Float) → (is_nan y || is_nan x) ≡ false → edge_of y x ≡ cond (negative y) (neg (edge_size y x)) (edge_size y x)
unfolding edge_of
edge_number y x e = rw e refl

pub arctan_edge : (y x : Float) → (is_ordinary y && is_ordinary x) ≡ false → arctangent y x ≡ edge_of y x
unfolding arctangent
arctan_edge y x e = rw e refl

pub arctan_slight : (y x : Float) → (is_ordinary y && is_ordinary x) ≡ true → slight y x ≡ true → arctangent y x ≡ div binary64 y x
unfolding arctangent
arctan_slight y x e f = rw (e, f) refl

pub arctan_angle : (y x : Float) → (is_ordinary y && is_ordinary x) ≡ true → slight y x ≡ false → arctangent y x ≡ angle_of y x (steep_of y x) (ratio y x)
unfolding arctangent
arctan_angle y x e f = rw (e, f) refl

-- ---- by the code's tests: `tested` for two ordinary numbers, `quick` for a slight quotient of such
module _ (y x : Float) (f : T (fits binary64 y)) (g : T (fits binary64 x)) where
  pub by_edge : tested y x ≡ false → arctangent y x ≡ edge_of y x
  by_edge t = arctan_edge y x (sym (tested_is y x f g) ∙ t)

  pub by_quotient : tested y x ≡ true → quick y x ≡ true → arctangent y x ≡ div binary64 y x
  by_quotient t q = arctan_slight y x (sym (tested_is y x f g) ∙ t) (slight_is y x t ∙ q)

  pub by_angle : tested y x ≡ true → quick y x ≡ false → arctangent y x ≡ angle_of y x (steep_of y x) (ratio y x)
  by_angle t q = arctan_angle y x (sym (tested_is y x f g) ∙ t) (slight_is y x t ∙ q)
