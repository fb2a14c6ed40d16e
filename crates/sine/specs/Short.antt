-- The short series. Of the rest g at 2 ^ 66, with z its square at 2 ^ 70, the sine at 2 ^ 66 and one less the cosine at 2 ^ 70.
use Rattle.std.specs.Prelude.{ℕ, ◌-◌, ◌*◌, ◌/◌, ◌^◌}
use Rattle.fixed.specs.High.{high}

-- the last two terms of either series, of w, the square at 2 ^ 42
unfoldable pub bend : ℕ → ℕ → ℕ → ℕ → ℕ
bend k c s w = w * (k - w * c / s) / 2 ^ 32

-- what the sine lacks of g, as a part of g, at 2 ^ 70: z / 6 - z ^ 2 / 120 + z ^ 3 / 5040
unfoldable pub lack : ℕ → ℕ
lack z = z / 6 - z / 2 ^ 28 * bend 2290649225 3490513021 (2 ^ 48) (z / 2 ^ 28) / 2 ^ 20

unfoldable pub short_sine : ℕ → ℕ → ℕ
short_sine g z = g - high g (lack z) / 2 ^ 8

-- one less the cosine: z / 2 - z ^ 2 / 24 + z ^ 3 / 720, the last a little smaller for the term that is left out
unfoldable pub short_versine : ℕ → ℕ
short_versine z = z / 2 - z / 2 ^ 28 * bend 2863311531 3054159019 (2 ^ 47) (z / 2 ^ 28) / 2 ^ 18
