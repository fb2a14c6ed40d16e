-- What a call tells beside numbers, as the float that it is for C: a mark is 1.0 or 0.0.
use Rattle.std.specs.Prelude.{ℕ, List, [], ◌∷◌, pos, Float}
use Rattle.std.specs.Float.{binary64}
use Rattle.std.specs.Float.Ieee.{of_int}

unfoldable pub floats : List ℕ → List Float
floats [] = []
floats (n ∷ ns) = of_int binary64 (pos n) ∷ floats ns
