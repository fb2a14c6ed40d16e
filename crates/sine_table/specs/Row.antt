-- What the rule makes of one row of the table, as polynomials of t, where t / 16 is the distance from the node, at most 1 / 32: the
-- short series of the sine and of the cosine, and the row turned by the addition theorem. Each is a difference of two lists, "plus"
-- and "minus", over a denominator. That the rule's numbers stand for these is proved where the rule is.
use Rattle.std.specs.Prelude.{List, [], ◌∷◌, Bool, true, false, ℕ, ◌+◌, ◌*◌, ◌^◌}
use Rattle.series.specs.Poly.{plus, scale, times}

-- t at 2 ^ 62, and its square at 2 ^ 124
unfoldable pub line : List ℕ
line = 0 ∷ 2 ^ 62 ∷ []

unfoldable pub square : List ℕ
unfolding times line
square = times line line

-- w * (w * (k - w * c / s)), where w is t ^ 2 at 2 ^ 34
unfoldable pub bend_plus : ℕ → ℕ → List ℕ
unfolding times plus scale square line
bend_plus s k = times (times (plus (scale (s * 2 ^ 90) (k ∷ [])) []) square) square

unfoldable pub bend_minus : ℕ → ℕ → List ℕ
unfolding times plus scale square line
bend_minus s c = times (times (plus (scale (s * 2 ^ 90) []) (times square (c ∷ []))) square) square

-- what the sine lacks, as a part of the angle: z / 6 - z ^ 2 / 120 + z ^ 3 / 5040, over 6 * 2 ^ 370
unfoldable pub lack_plus : List ℕ
unfolding plus scale square bend_minus
lack_plus = plus (scale (2 ^ 308) square) (scale 6 (bend_minus (2 ^ 48) 3490513021))

unfoldable pub lack_minus : List ℕ
unfolding plus scale bend_plus
lack_minus = plus (scale (2 ^ 308) []) (scale 6 (bend_plus (2 ^ 48) 2290649225))

-- the sine, over 6 * 2 ^ 440
unfoldable pub sine_plus : List ℕ
unfolding plus scale times line lack_minus
sine_plus = plus (scale (6 * 2 ^ 440) line) (times lack_minus line)

unfoldable pub sine_minus : List ℕ
unfolding plus scale times line lack_plus
sine_minus = plus (scale (6 * 2 ^ 440) []) (times lack_plus line)

-- one less the cosine, over 2 ^ 367
unfoldable pub versine_plus : List ℕ
unfolding plus scale square bend_minus
versine_plus = plus (scale (2 ^ 304) square) (bend_minus (2 ^ 47) 3054159019)

unfoldable pub versine_minus : List ℕ
unfolding plus scale bend_plus
versine_minus = plus (scale (2 ^ 304) []) (bend_plus (2 ^ 47) 2863311531)

-- the denominator of a turned row
unfoldable pub row_den : ℕ
row_den = 6 * 2 ^ 506

-- 3 + (b - 1) cos + (c - 1) sin at 2 ^ 61, of a row's numbers b and c, over `row_den`; the sine taken away where the flag is true
unfoldable pub base_plus : ℕ → List ℕ
unfolding plus scale times versine_plus versine_minus
base_plus b = plus (plus (scale (6 * 2 ^ 506) ((2 ^ 62 + b) ∷ [])) (scale (6 * 2 ^ 69) (times versine_minus (b ∷ [])))) (scale (6 * 2 ^ 130) versine_plus)

unfoldable pub base_minus : ℕ → List ℕ
unfolding plus scale times versine_plus versine_minus
base_minus b = plus (plus (scale (6 * 2 ^ 506) []) (scale (6 * 2 ^ 69) (times versine_plus (b ∷ [])))) (scale (6 * 2 ^ 130) versine_minus)

unfoldable pub turned_plus : ℕ → ℕ → Bool → List ℕ
unfolding plus scale times base_plus sine_plus sine_minus
turned_plus b c false = plus (plus (base_plus b) (times sine_plus (c ∷ []))) (scale (2 ^ 61) sine_minus)
turned_plus b c true = plus (plus (base_plus b) (scale (2 ^ 61) sine_plus)) (times sine_minus (c ∷ []))

unfoldable pub turned_minus : ℕ → ℕ → Bool → List ℕ
unfolding plus scale times base_minus sine_plus sine_minus
turned_minus b c false = plus (plus (base_minus b) (times sine_minus (c ∷ []))) (scale (2 ^ 61) sine_plus)
turned_minus b c true = plus (plus (base_minus b) (scale (2 ^ 61) sine_minus)) (times sine_plus (c ∷ []))
