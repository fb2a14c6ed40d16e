-- THE SECOND TEST OF THE TABLE: a turned row stays within 1 of its middle, 3 at 2 ^ 61, but for 2 ^ 14. With two squares added its
-- polynomial is a constant, since the squares of a sine and a cosine add up to 1. Computed 816 times.
use mathlib.Core.Path.{◌≡◌, refl, sym, subst}
use mathlib.Core.List.{List, [], ◌∷◌}
use mathlib.Core.Bool.{Bool, true, false, not, ◌&&◌}
use Prim.Native.Nat.{ℕ, ◌*◌, ◌≤◌, ◌<◌, ◌^◌}
use lib.Dec.{T, leb, leb→le}
use lib.ListN.{get_or}
use Rattle.series.specs.Poly.{plus, scale, times, total}
use Rattle.series.specs.Near.{gap, off, squares, crosses}
use Rattle.sine_table.specs.Table.{sines, cosines}
use Rattle.sine_table.specs.Row.{line, square, bend_plus, bend_minus, lack_plus, lack_minus, sine_plus, sine_minus, versine_plus, versine_minus, row_den, base_plus, base_minus, turned_plus, turned_minus}
use Rattle.sine_table.proofs.Rows.{rows, row_at_lem, first, second}

-- rowDen times b - 1 less or more the cosine, and c - 1 less or more the sine, as differences of lists
unfoldable pub less_cos_plus : ℕ → List ℕ
less_cos_plus b = plus (6 * 2 ^ 445 * b ∷ []) (scale (6 * 2 ^ 69) versine_plus)

unfoldable pub less_cos_minus : List ℕ
less_cos_minus = plus (2 * row_den ∷ []) (scale (6 * 2 ^ 69) versine_minus)

unfoldable pub more_cos_plus : ℕ → List ℕ
more_cos_plus b = plus (6 * 2 ^ 445 * b ∷ []) (scale (6 * 2 ^ 69) versine_minus)

unfoldable pub more_cos_minus : List ℕ
more_cos_minus = scale (6 * 2 ^ 69) versine_plus

unfoldable pub sin_side_plus : ℕ → Bool → List ℕ
sin_side_plus c false = plus (6 * 2 ^ 445 * c ∷ []) sine_minus
sin_side_plus c true = plus (6 * 2 ^ 445 * c ∷ []) sine_plus

unfoldable pub sin_side_minus : Bool → List ℕ
sin_side_minus false = plus (row_den ∷ []) sine_plus
sin_side_minus true = plus (row_den ∷ []) sine_minus

-- the rule's polynomial, and 3 at 2 ^ 61, over rowDen * rowDen
unfoldable pub lifts : List ℕ → List ℕ
lifts p = scale (6 * 2 ^ 446) p

unfoldable pub middle : List ℕ → List ℕ
middle m = scale (6 * 2 ^ 446) (plus m (3 * 2 ^ 61 * row_den ∷ []))

unfoldable pub over_top : ℕ → ℕ → Bool → ℕ
over_top b c f =
    off (plus (lifts (turned_plus b c f)) (squares (less_cos_plus b) less_cos_minus (sin_side_plus c f) (sin_side_minus f)))
    (plus (middle (turned_minus b c f)) (crosses (less_cos_plus b) less_cos_minus (sin_side_plus c f) (sin_side_minus f)))
    (2 * row_den * row_den ∷ []) []

unfoldable pub under_bottom : ℕ → ℕ → Bool → ℕ
under_bottom b c f =
    off (plus (middle (turned_minus b c f)) (squares (more_cos_plus b) more_cos_minus (sin_side_plus c (not f)) (sin_side_minus (not f))))
    (plus (lifts (turned_plus b c f)) (crosses (more_cos_plus b) more_cos_minus (sin_side_plus c (not f)) (sin_side_minus (not f))))
    (2 * row_den * row_den ∷ []) []

-- within 2 ^ 14 at 2 ^ 61
unfoldable pub slight : ℕ → Bool
slight e = leb e (2 ^ 14 * (6 * 2 ^ 446) * row_den)

unfoldable pub flat : ℕ → ℕ → Bool → Bool
flat b c f = slight (over_top b c f) && slight (under_bottom b c f)

-- both flags
unfoldable pub flat_row : ℕ → ℕ → Bool
flat_row b c = flat b c false && flat b c true

all_sines : rows (λ j s c. flat_row s c) 0 sines cosines ≡ true
unfolding rows sines cosines flat_row flat slight over_top under_bottom lifts middle
    less_cos_plus less_cos_minus more_cos_plus more_cos_minus sin_side_plus sin_side_minus squares crosses
    off gap total plus scale times turned_plus turned_minus base_plus base_minus sine_plus sine_minus lack_plus lack_minus versine_plus versine_minus bend_plus bend_minus square line row_den
all_sines = refl

all_cosines : rows (λ j s c. flat_row c s) 0 sines cosines ≡ true
unfolding rows sines cosines flat_row flat slight over_top under_bottom lifts middle
    less_cos_plus less_cos_minus more_cos_plus more_cos_minus sin_side_plus sin_side_minus squares crosses
    off gap total plus scale times turned_plus turned_minus base_plus base_minus sine_plus sine_minus lack_plus lack_minus versine_plus versine_minus bend_plus bend_minus square line row_den
all_cosines = refl

flat-at : (b c : ℕ) → flat_row b c ≡ true → (f : Bool) → flat b c f ≡ true
unfolding flat_row
flat-at b c e false = first (flat b c false) (flat b c true) e
flat-at b c e true = second (flat b c false) (flat b c true) e

-- the rows, one by one
pub sine-flat : (j : ℕ) → j < 102 → (f : Bool) → flat (get_or sines j 0) (get_or cosines j 0) f ≡ true
sine-flat j h = flat-at (get_or sines j 0) (get_or cosines j 0) (row_at_lem (λ j s c. flat_row s c) all_sines j h)

pub cosine-flat : (j : ℕ) → j < 102 → (f : Bool) → flat (get_or cosines j 0) (get_or sines j 0) f ≡ true
cosine-flat j h = flat-at (get_or cosines j 0) (get_or sines j 0) (row_at_lem (λ j s c. flat_row c s) all_cosines j h)

-- what a row that passes says
is_slight : (e : ℕ) → slight e ≡ true → e ≤ 2 ^ 14 * (6 * 2 ^ 446) * row_den
unfolding slight
is_slight e h = leb→le e (2 ^ 14 * (6 * 2 ^ 446) * row_den) (subst T (sym h) tt)

module _ (b c : ℕ) (f : Bool) (ok : flat b c f ≡ true) where
  pub flat_above : over_top b c f ≤ 2 ^ 14 * (6 * 2 ^ 446) * row_den
  unfolding flat
  flat_above = is_slight (over_top b c f) (first (slight (over_top b c f)) (slight (under_bottom b c f)) ok)

  pub flat_below : under_bottom b c f ≤ 2 ^ 14 * (6 * 2 ^ 446) * row_den
  unfolding flat
  flat_below = is_slight (under_bottom b c f) (second (slight (over_top b c f)) (slight (under_bottom b c f)) ok)
