-- The rule's number stays within 1 of its middle, 3 at 2 ^ 61, but for 17008. So cutting the answer to at most 1 changes it little.
use mathlib.Core.Path.{◌≡◌, refl, sym, ap, ◌∙◌}
use mathlib.Core.List.{List, [], ◌∷◌}
use mathlib.Core.Bool.{Bool, true, false, not}
use Prim.Native.Nat.{ℕ, ◌+◌, ◌*◌, ◌≤◌, ◌<◌, ◌^◌}
use native.Mathlib.Nat.{add-zero, mul-add, add-mul, mul_assoc, mul_left_comm, mul_comm, mul-zero, mul-pos, mul-le-mul_left, mul-le-mul_right, le_of_mul-le-mul_left}
use native.Mathlib.Omega.{arith}
use lib.Dec.{lit≤, lit<}
use lib.ListN.{length}
use lib.Pow.{pow-add}
use Rattle.series.specs.Poly.{plus, scale, times, value}
use Rattle.series.specs.Stands.{Stands}
use Rattle.series.proofs.Values.{value-plus, value-scale, value_lift}
use Rattle.series.proofs.Squares.{at-most_by_squares}
use Rattle.sine_table.specs.Row.{line, square, bend_plus, bend_minus, lack_plus, lack_minus, sine_plus, sine_minus, versine_plus, versine_minus, row_den, base_plus, base_minus, turned_plus, turned_minus}
use Rattle.sine_table.proofs.Flat.{less_cos_plus, less_cos_minus, more_cos_plus, more_cos_minus, sin_side_plus, sin_side_minus, lifts, middle, over_top, under_bottom, flat, flat_above, flat_below}

-- within 1 of the middle, and 17008 more
unfoldable pub InRange : ℕ → Type 0
InRange t = (t ≤ 4 * 2 ^ 61 + 17008) × (2 * 2 ^ 61 ≤ t + 17008)

-- in numbers: k is 6 * 2 ^ 446, r is rowDen, y is d ^ 7
module _ (k r y p m t e : ℕ) (q-pos : 0 < k * (r * (y * y))) (twice : 2 * r ≡ k * 2 ^ 61) (e-small : e ≤ 2 ^ 14 * k * r) where
  q : ℕ
  q = k * (r * (y * y))

  unit_is : (c : ℕ) → k * (c * r * (y * y)) ≡ c * q
  unfolding q
  unit_is c = rw (mul_assoc c r (y * y)) (mul_left_comm k c (r * (y * y)))

  constant_is : 2 * r * r * (y * y) ≡ 2 ^ 61 * q
  unfolding q
  constant_is = rw (twice, mul_comm k (2 ^ 61), mul_assoc (2 ^ 61 * k) r (y * y)) (mul_assoc (2 ^ 61) k (r * (y * y)))

  error_is : e * (y * y) ≤ 2 ^ 14 * q
  unfolding q
  error_is =
      let h = mul-le-mul_right (y * y) e-small in
      let i : 2 ^ 14 * k * r * (y * y) ≡ 2 ^ 14 * (k * (r * (y * y))) = rw (mul_assoc (2 ^ 14 * k) r (y * y)) (mul_assoc (2 ^ 14) k (r * (y * y))) in
      omega arith

  spread_is : (c : ℕ) → k * (y * (c * (r * y))) ≡ c * q
  unfolding q
  spread_is c = rw (mul_left_comm y c (r * y), mul_left_comm y r y) (mul_left_comm k c (r * (y * y)))

  sum_is : (c n : ℕ) → k * (y * (c * (r * y) + n)) ≡ c * q + k * (y * n)
  sum_is c n = rw (mul-add y (c * (r * y)) n, mul-add k (y * (c * (r * y))) (y * n), spread_is c) refl

  high : k * (y * p) ≤ k * (y * m + 3 * 2 ^ 61 * r * (y * y)) + 2 * r * r * (y * y) + e * (y * y) → t * (r * y) + m ≤ p + 624 * (r * y) → t ≤ 4 * 2 ^ 61 + 17008
  unfolding q
  high h i =
      let j : k * (y * (t * (r * y) + m)) ≤ k * (y * (624 * (r * y) + p)) = mul-le-mul_left k (mul-le-mul_left y (omega arith)) in
      let x = mul-add k (y * m) (3 * 2 ^ 61 * r * (y * y)) in
      le_of_mul-le-mul_left {k = q} (rw (mul_comm q t, mul_comm q (4 * 2 ^ 61 + 17008)) (omega (arith, j, x, sum_is t m, sum_is 624 p, unit_is (3 * 2 ^ 61), constant_is, error_is))) q-pos

  low : k * (y * m + 3 * 2 ^ 61 * r * (y * y)) ≤ k * (y * p) + 2 * r * r * (y * y) + e * (y * y) → p ≤ t * (r * y) + m + 624 * (r * y) → 2 * 2 ^ 61 ≤ t + 17008
  unfolding q
  low h i =
      let s : t * (r * y) + 624 * (r * y) ≡ (t + 624) * (r * y) = sym (add-mul t 624 (r * y)) in
      let j : k * (y * p) ≤ k * (y * ((t + 624) * (r * y) + m)) = mul-le-mul_left k (mul-le-mul_left y (omega arith)) in
      let x = mul-add k (y * m) (3 * 2 ^ 61 * r * (y * y)) in
      le_of_mul-le-mul_left {k = q}
      (rw (mul_comm q (2 * 2 ^ 61), mul_comm q (t + 17008))
      (omega (arith, j, x, sum_is (t + 624) m, unit_is (3 * 2 ^ 61), constant_is, error_is, add-mul t 17008 q, add-mul t 624 q)))
      q-pos

-- ---- and of the rule
pub turned-lengths : (b c : ℕ) (f : Bool) → (length (turned_plus b c f) ≤ 8) × (length (turned_minus b c f) ≤ 8)
unfolding turned_plus turned_minus base_plus base_minus sine_plus sine_minus lack_plus lack_minus versine_plus versine_minus bend_plus bend_minus square line plus scale times
turned-lengths b c true = (lit≤ tt, lit≤ tt)
turned-lengths b c false = (lit≤ tt, lit≤ tt)

cos_lengths : (b : ℕ) → (length (less_cos_plus b) ≤ 8) × (length less_cos_minus ≤ 8) × (length (more_cos_plus b) ≤ 8) × (length more_cos_minus ≤ 8)
unfolding less_cos_plus less_cos_minus more_cos_plus more_cos_minus versine_plus versine_minus bend_plus bend_minus square line plus scale times
cos_lengths b = (lit≤ tt, lit≤ tt, lit≤ tt, lit≤ tt)

sin_lengths : (c : ℕ) (f : Bool) → (length (sin_side_plus c f) ≤ 8) × (length (sin_side_minus f) ≤ 8)
unfolding sin_side_plus sin_side_minus sine_plus sine_minus lack_plus lack_minus bend_plus bend_minus square line plus scale times
sin_lengths c true = (lit≤ tt, lit≤ tt)
sin_lengths c false = (lit≤ tt, lit≤ tt)

lifts_is : (a d : ℕ) (p : List ℕ) → length p ≤ 8 → value 14 (lifts p) a d ≡ 6 * 2 ^ 446 * (d ^ 7 * value 7 p a d)
unfolding lifts
lifts_is a d p h = value-scale 14 (6 * 2 ^ 446) p a d ∙ ap (λ (z : ℕ). 6 * 2 ^ 446 * z) (value_lift 7 7 p a d h)

constant_value : (a d k : ℕ) → value 14 (k ∷ []) a d ≡ k * (d ^ 7 * d ^ 7)
unfolding value
constant_value a d k = rw (mul-zero a, add-zero) (ap (λ (z : ℕ). k * z) (pow-add d 7 7))

middle_is : (a d : ℕ) (m : List ℕ) → length m ≤ 8 → value 14 (middle m) a d ≡ 6 * 2 ^ 446 * (d ^ 7 * value 7 m a d + 3 * 2 ^ 61 * row_den * (d ^ 7 * d ^ 7))
unfolding middle
middle_is a d m h =
    value-scale 14 (6 * 2 ^ 446) (plus m (3 * 2 ^ 61 * row_den ∷ [])) a d
    ∙ ap (λ (z : ℕ). 6 * 2 ^ 446 * z)
    (value-plus 14 m (3 * 2 ^ 61 * row_den ∷ []) a d ∙ rw (value_lift 7 7 m a d h, constant_value a d (3 * 2 ^ 61 * row_den)) refl)

twice_den : 2 * row_den ≡ 6 * 2 ^ 446 * 2 ^ 61
unfolding row_den
twice_den = refl

den_pos : 0 < row_den
unfolding row_den
den_pos = lit< tt

module _ (a d t b c : ℕ) (f : Bool) (d-pos : 0 < d ^ 7) (h : a ≤ d) (w : Stands a d 624 t row_den 7 (turned_plus b c f) (turned_minus b c f)) where
  unit_pos : 0 < 6 * 2 ^ 446 * (row_den * (d ^ 7 * d ^ 7))
  unit_pos = mul-pos (lit< tt) (mul-pos den_pos (mul-pos d-pos d-pos))

  not_above : flat b c f ≡ true → t ≤ 4 * 2 ^ 61 + 17008
  unfolding over_top
  not_above ok =
      let bound = at-most_by_squares 7 a d (2 * row_den * row_den) (lifts (turned_plus b c f)) (middle (turned_minus b c f)) (less_cos_plus b) less_cos_minus (sin_side_plus c f) (sin_side_minus f) h
      (cos_lengths b).0 (cos_lengths b).1 (sin_lengths c f).0 (sin_lengths c f).1 in
      high (6 * 2 ^ 446) row_den (d ^ 7) (value 7 (turned_plus b c f) a d) (value 7 (turned_minus b c f) a d) t (over_top b c f) unit_pos twice_den (flat_above b c f ok)
      (rw (lifts_is a d (turned_plus b c f) (turned-lengths b c f).0, middle_is a d (turned_minus b c f) (turned-lengths b c f).1, constant_value a d (2 * row_den * row_den), pow-add d 7 7) at bound)
      w.above

  not_below_lem : flat b c f ≡ true → 2 * 2 ^ 61 ≤ t + 17008
  unfolding under_bottom
  not_below_lem ok =
      let bound = at-most_by_squares 7 a d (2 * row_den * row_den) (middle (turned_minus b c f)) (lifts (turned_plus b c f)) (more_cos_plus b) more_cos_minus (sin_side_plus c (not f)) (sin_side_minus (not f)) h
      (cos_lengths b).2 (cos_lengths b).3 (sin_lengths c (not f)).0 (sin_lengths c (not f)).1 in
      low (6 * 2 ^ 446) row_den (d ^ 7) (value 7 (turned_plus b c f) a d) (value 7 (turned_minus b c f) a d) t (under_bottom b c f) unit_pos twice_den (flat_below b c f ok)
      (rw (lifts_is a d (turned_plus b c f) (turned-lengths b c f).0, middle_is a d (turned_minus b c f) (turned-lengths b c f).1, constant_value a d (2 * row_den * row_den), pow-add d 7 7) at bound)
      w.below

  pub in_range_lem : flat b c f ≡ true → InRange t
  unfolding InRange
  in_range_lem ok = (not_above ok, not_below_lem ok)
