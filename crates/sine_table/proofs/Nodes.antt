-- THE TEST OF THE TABLE: at every node and on either side of it, Taylor's 22 terms and the polynomial that the rule makes of the node's
-- row differ by at most 2 ^ 14 at 2 ^ 61, the differences of the coefficients added up. Computed 408 times.
use mathlib.Core.Path.{◌≡◌, refl, sym, subst}
use mathlib.Core.List.{List, [], ◌∷◌}
use mathlib.Core.Bool.{Bool, true, false, not, ◌&&◌}
use Prim.Native.Nat.{ℕ, ◌*◌, ◌≤◌, ◌<◌, ◌^◌}
use lib.Dec.{T, leb, leb→le}
use lib.ListN.{get_or}
use Rattle.series.specs.Poly.{plus, scale, times, total, weigh}
use Rattle.series.specs.Shift.{step, shift, back_step, back}
use Rattle.series.specs.Near.{gap, off}
use Rattle.sine_table.specs.Table.{sines, cosines}
use Rattle.series.specs.Factorial.{factorial}
use Rattle.sine_table.specs.Series.{over, every_fourth, sine_gains, sine_losses, cosine_gains, cosine_losses}
use Rattle.sine_table.specs.Row.{line, square, bend_plus, bend_minus, lack_plus, lack_minus, sine_plus, sine_minus, versine_plus, versine_minus, row_den, base_plus, base_minus, turned_plus, turned_minus}
use Rattle.sine_table.proofs.Rows.{rows, row_at_lem, first, second}

-- a series of the angle x as one of t = 16 x, and its denominator
unfoldable pub spread : List ℕ → List ℕ
unfolding weigh
spread p = weigh 16 43 p

unfoldable pub series_den : ℕ
unfolding factorial
series_den = factorial 43 * 16 ^ 43

-- 3 + (gains - losses) at 2 ^ 61 against p - m, over both denominators
unfoldable pub distance : List ℕ → List ℕ → List ℕ → List ℕ → ℕ
unfolding off plus scale row_den series_den
distance gains losses p m =
    off (plus (3 * 2 ^ 61 * row_den * series_den ∷ []) (scale (2 ^ 61 * row_den) gains)) (scale (2 ^ 61 * row_den) losses) (scale series_den p) (scale series_den m)

-- the limit, 2 ^ 14 at 2 ^ 61
unfoldable pub limit : ℕ
unfolding row_den series_den
limit = 2 ^ 14 * row_den * series_den

-- above the node j: the series at j + t
unfoldable pub near_above : List ℕ → List ℕ → Bool → ℕ → ℕ → ℕ → Bool
unfolding limit distance shift spread turned_plus turned_minus
near_above gains losses f j b c =
    leb (distance (shift j (spread gains)) (shift j (spread losses)) (turned_plus b c f) (turned_minus b c f)) limit

-- below it: the series at j - t, the even powers less the odd ones
unfoldable pub near_below : List ℕ → List ℕ → Bool → ℕ → ℕ → ℕ → Bool
unfolding limit distance back plus spread turned_plus turned_minus
near_below gains losses f j b c =
    let g = back j (spread gains) in
    let l = back j (spread losses) in
    leb (distance (plus g.even l.odd) (plus g.odd l.even) (turned_plus b c f) (turned_minus b c f)) limit

-- the row b, c of the node j; f says whether the sine of the rest is taken away above the node, as for the cosine, or below it
unfoldable pub near_row : List ℕ → List ℕ → Bool → ℕ → ℕ → ℕ → Bool
unfolding near_above near_below
near_row gains losses f j b c = near_above gains losses f j b c && near_below gains losses (not f) j b c

all_sines : rows (λ j s c. near_row sine_gains sine_losses false j s c) 0 sines cosines ≡ true
unfolding rows sines cosines near_row near_above near_below limit distance off gap total plus scale times
    shift step back back_step spread weigh sine_gains sine_losses over every_fourth factorial
    turned_plus turned_minus base_plus base_minus sine_plus sine_minus lack_plus lack_minus versine_plus versine_minus bend_plus bend_minus square line row_den series_den
all_sines = refl

all_cosines : rows (λ j s c. near_row cosine_gains cosine_losses true j c s) 0 sines cosines ≡ true
unfolding rows sines cosines near_row near_above near_below limit distance off gap total plus scale times
    shift step back back_step spread weigh cosine_gains cosine_losses over every_fourth factorial
    turned_plus turned_minus base_plus base_minus sine_plus sine_minus lack_plus lack_minus versine_plus versine_minus bend_plus bend_minus square line row_den series_den
all_cosines = refl

-- the rows, one by one
pub sine_row : (j : ℕ) → j < 102 → near_row sine_gains sine_losses false j (get_or sines j 0) (get_or cosines j 0) ≡ true
sine_row = row_at_lem (λ j s c. near_row sine_gains sine_losses false j s c) all_sines

pub cosine_row : (j : ℕ) → j < 102 → near_row cosine_gains cosine_losses true j (get_or cosines j 0) (get_or sines j 0) ≡ true
cosine_row = row_at_lem (λ j s c. near_row cosine_gains cosine_losses true j c s) all_cosines

-- what a row that passes says
within_limit : (e : ℕ) → leb e limit ≡ true → e ≤ 2 ^ 14 * row_den * series_den
unfolding limit
within_limit e h = leb→le e (2 ^ 14 * row_den * series_den) (subst T (sym h) tt)

module _ (gains losses : List ℕ) (f : Bool) (j b c : ℕ) (ok : near_row gains losses f j b c ≡ true) where
  pub row_above : distance (shift j (spread gains)) (shift j (spread losses)) (turned_plus b c f) (turned_minus b c f) ≤ 2 ^ 14 * row_den * series_den
  unfolding near_row near_above
  row_above = within_limit _ (first (near_above gains losses f j b c) (near_below gains losses (not f) j b c) ok)

  pub row_below : let g = back j (spread gains) in let l = back j (spread losses) in
      distance (plus g.even l.odd) (plus g.odd l.even) (turned_plus b c (not f)) (turned_minus b c (not f)) ≤ 2 ^ 14 * row_den * series_den
  unfolding near_row near_below
  row_below = within_limit _ (second (near_above gains losses f j b c) (near_below gains losses (not f) j b c) ok)
