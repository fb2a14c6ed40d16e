-- Near 0 the series is its first term, to within 2 ^ -50: for an angle x / d of at most 2 ^ -26.
use mathlib.Core.Path.{◌≡◌}
use mathlib.Core.List.{List, [], ◌∷◌}
use Prim.Native.Nat.{ℕ, ◌+◌, ◌*◌, ◌≤◌, ◌<◌, ◌^◌}
use native.Mathlib.Nat.{add-zero, zero-add, mul-add, mul_assoc, mul_left_comm, mul-zero, zero-mul, mul-le-mul_right, le_of_mul-le-mul_left}
use native.Mathlib.Omega.{arith}
use lib.Dec.{lit≤, lit<}
use Rattle.series.specs.Poly.{plus, total, value, weigh}
use Rattle.series.specs.Near.{Near, gap, off}
use Rattle.series.proofs.Values.{value-weigh}
use Rattle.series.proofs.Nears.{near-off}
use Rattle.series.specs.Factorial.{factorial}
use Rattle.sine_table.specs.Series.{over, every_fourth, sine_gains, sine_losses, cosine_gains, cosine_losses}

-- g - l is within f / 2 ^ 50 of v
pub record Small (f g l v : ℕ) : Type 0 where
  pub above : 2 ^ 50 * g ≤ 2 ^ 50 * (l + v) + f
  pub below : 2 ^ 50 * (l + v) ≤ 2 ^ 50 * g + f

-- the same times c
from_scaled : (c e f g l v y : ℕ) → 0 < c → 2 ^ 50 * e ≤ c * f → Near (e * y) (c * g) (c * l) (c * v) 0 → Small (f * y) g l v
from_scaled c e f g l v y C h n =
    let i : 2 ^ 50 * (e * y) ≤ c * (f * y) = omega (arith, mul-le-mul_right y h, mul_assoc (2 ^ 50) e y, mul_assoc c f y) in
    record {
      above = le_of_mul-le-mul_left {k = c}
          (omega (arith, n.above, i, mul_left_comm c (2 ^ 50) g, mul-add c (2 ^ 50 * (l + v)) (f * y), mul_left_comm c (2 ^ 50) (l + v), mul-add c l v)) C;
      below = le_of_mul-le-mul_left {k = c}
          (omega (arith, n.below, i, mul_left_comm c (2 ^ 50) g, mul-add c (2 ^ 50 * g) (f * y), mul_left_comm c (2 ^ 50) (l + v), mul-add c l v)) C;
    }

unfoldable pub tiny : List ℕ → List ℕ → List ℕ → ℕ
tiny gains losses main = off (weigh (2 ^ 26) 43 gains) (weigh (2 ^ 26) 43 losses) (weigh (2 ^ 26) 43 main) []

small_law : (x d : ℕ) (gains losses main : List ℕ) → 2 ^ 26 * x ≤ d → 2 ^ 50 * tiny gains losses main ≤ (2 ^ 26) ^ 43 * factorial 43 →
    Small (factorial 43 * d ^ 43) (value 43 gains x d) (value 43 losses x d) (value 43 main x d)
unfolding tiny value
small_law x d gains losses main h t =
    from_scaled ((2 ^ 26) ^ 43) (tiny gains losses main) (factorial 43) (value 43 gains x d) (value 43 losses x d) (value 43 main x d) (d ^ 43) (lit< tt) t
    (rw (value-weigh 43 gains (2 ^ 26) x d, value-weigh 43 losses (2 ^ 26) x d, value-weigh 43 main (2 ^ 26) x d) at
    (near-off 43 (2 ^ 26 * x) d (weigh (2 ^ 26) 43 gains) (weigh (2 ^ 26) 43 losses) (weigh (2 ^ 26) 43 main) [] h))

module _ (x d : ℕ) (h : 2 ^ 26 * x ≤ d) where
  pub small_sine : Small (factorial 43 * d ^ 43) (value 43 sine_gains x d) (value 43 sine_losses x d) (x * (factorial 43 * d ^ 42))
  unfolding value tiny off gap total plus weigh sine_gains sine_losses over every_fourth factorial
  small_sine =
      rw (first) at (small_law x d sine_gains sine_losses (0 ∷ factorial 43 ∷ []) h (lit≤ tt))
    where
      first : value 43 (0 ∷ factorial 43 ∷ []) x d ≡ x * (factorial 43 * d ^ 42)
      first = rw (zero-mul (d ^ 43), mul-zero x, add-zero) (zero-add (x * (factorial 43 * d ^ 42)))

  pub small_cosine : Small (factorial 43 * d ^ 43) (value 43 cosine_gains x d) (value 43 cosine_losses x d) (factorial 43 * d ^ 43)
  unfolding value tiny off gap total plus weigh cosine_gains cosine_losses over every_fourth factorial
  small_cosine =
      rw (first) at (small_law x d cosine_gains cosine_losses (factorial 43 ∷ []) h (lit≤ tt))
    where
      first : value 43 (factorial 43 ∷ []) x d ≡ factorial 43 * d ^ 43
      first = rw (mul-zero x) (add-zero (factorial 43 * d ^ 43))
