-- The first 22 terms of Taylor's series of the sine and of the cosine, times 43!, as polynomials of the angle. The terms that are
-- added and those that are taken away are two lists.
use Rattle.std.specs.Prelude.{List, [], ◌∷◌, ℕ, zero, suc, ◌/◌}
use Rattle.series.specs.Factorial.{factorial}

-- 43! / k!, 43! / (k + 1)!, ..: n numbers
unfoldable pub over : ℕ → ℕ → List ℕ
unfolding factorial
over zero k = []
over (suc n) k = (factorial 43 / factorial k) ∷ over n (suc k)

-- of a list the numbers at i, i + 4, i + 8, .., and 0 elsewhere
unfoldable pub every_fourth : ℕ → List ℕ → List ℕ
every_fourth i [] = []
every_fourth zero (x ∷ p) = x ∷ every_fourth 3 p
every_fourth (suc i) (x ∷ p) = 0 ∷ every_fourth i p

-- the sine: x + x ^ 5 / 5! + .. + x ^ 41 / 41! less x ^ 3 / 3! + x ^ 7 / 7! + .. + x ^ 43 / 43!
unfoldable pub sine_gains : List ℕ
unfolding over every_fourth
sine_gains = every_fourth 1 (over 44 0)

unfoldable pub sine_losses : List ℕ
unfolding over every_fourth
sine_losses = every_fourth 3 (over 44 0)

-- the cosine: 1 + x ^ 4 / 4! + .. + x ^ 40 / 40! less x ^ 2 / 2! + x ^ 6 / 6! + .. + x ^ 42 / 42!
unfoldable pub cosine_gains : List ℕ
unfolding over every_fourth
cosine_gains = every_fourth 0 (over 44 0)

unfoldable pub cosine_losses : List ℕ
unfolding over every_fourth
cosine_losses = every_fourth 2 (over 44 0)
