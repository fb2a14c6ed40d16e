-- Euler's series as a quotient of two polynomials of v = 32 u, with whole coefficients.
use mathlib.Core.List.{List, [], ◌∷◌}
use Prim.Native.Nat.{ℕ, zero, suc, ◌+◌, ◌*◌, ◌/◌}
use Rattle.series.specs.Poly.{plus, scale, times}

-- 1 * 3 * 5 up to 2 k + 1
unfoldable pub odds : ℕ → ℕ
odds zero = 1
odds (suc k) = odds k * (2 * suc k + 1)

-- the coefficients of Euler's series from the one e on, each 2 k / (2 k + 1) of the one before, in units of 1 / odds
unfoldable pub euler_from : ℕ → ℕ → ℕ → List ℕ
euler_from zero k e = e ∷ []
euler_from (suc m) k e = e ∷ euler_from m (suc k) (e * (2 * k) / (2 * k + 1))

unfoldable pub euler : List ℕ
unfolding euler_from odds
euler = euler_from 63 1 (odds 63)

-- (1024 + v ^ 2) ^ k
unfoldable pub square : List ℕ
square = 1024 ∷ 0 ∷ 1 ∷ []

unfoldable pub power : ℕ → List ℕ
unfolding square times
power zero = 1 ∷ []
power (suc k) = times square (power k)

-- e ∷ l as e (1024 + v ^ 2) ^ length l + v ^ 2 (l): the polynomial, with that power beside it so that each power is made once
pub record Sum : Type 0 where
  pub poly : List ℕ
  pub pow : List ℕ

unfoldable pub grow : ℕ → List ℕ → List ℕ → Sum
grow e p q = record { poly = plus (scale e p) (0 ∷ 0 ∷ q); pow = p }

unfoldable pub sums : List ℕ → Sum
unfolding grow square times
sums [] = record { poly = []; pow = 1 ∷ [] }
sums (e ∷ []) = record { poly = e ∷ []; pow = 1 ∷ [] }
sums (e ∷ f ∷ l) = grow e (times square (sums (f ∷ l)).pow) (sums (f ∷ l)).poly

unfoldable pub top : List ℕ
unfolding sums euler
top = scale 32 (0 ∷ (sums euler).poly)

unfoldable pub bottom : List ℕ
unfolding power odds
bottom = scale (odds 63) (power 64)
