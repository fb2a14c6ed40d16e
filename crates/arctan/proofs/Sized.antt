-- What the code holds, by the rule's names: a and b are the sizes of x and y, low the smaller and high the larger.
use Rattle.std.proofs.Common.{◌≡◌, Bool, cond, not, ◌&&◌, refl}
use lib.Ieee.{Float, binary64, div, lt, le}
use Rattle.laws.specs.Literal.{zero, largest}
use Rattle.fixed.specs.Size.{size_of}
use Rattle.arctan.specs.Rule.{tiny, steep_of, smaller, larger, ratio, angle_of}
use Rattle.arctan.proofs.Tests.{tested}
use Rattle.arctan.proofs.Slight.{quick}

module _ (y x a b : Float) (a-is : a ≡ size_of x) (b-is : b ≡ size_of y) where
  pub steep_is : lt a b ≡ steep_of y x
  steep_is = rw (a-is, b-is) refl

  pub smaller_is : cond (lt a b) a b ≡ smaller y x
  smaller_is = rw (a-is, b-is) refl

  pub larger_is : cond (lt a b) b a ≡ larger y x
  larger_is = rw (a-is, b-is) refl

module _ (y x low high : Float) (low-is : low ≡ smaller y x) (high_is : high ≡ larger y x) where
  pub quotient_is : div binary64 low high ≡ ratio y x
  unfolding ratio
  quotient_is = rw (low-is, high_is) refl

  pub test_is : (lt zero low && le high largest) ≡ tested y x
  test_is = rw (low-is, high_is) refl

pub angle-at : (y x : Float) {s : Bool} {u : Float} → s ≡ steep_of y x → u ≡ ratio y x → angle_of y x s u ≡ angle_of y x (steep_of y x) (ratio y x)
angle-at y x e f = rw (e, f) refl

pub quick_is : (y x : Float) {s : Bool} {u : Float} → s ≡ steep_of y x → u ≡ ratio y x → (not s && (lt zero x && lt u tiny)) ≡ quick y x
quick_is y x e f = rw (e, f) refl
