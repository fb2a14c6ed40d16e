-- The rule's number against the series, about a node: t / 2 ^ 61 is 3 more than the series to within 17008 / 2 ^ 61, which is 624 for
-- the cuts and 2 ^ 14 for the row's polynomial.
use mathlib.Core.Path.{◌≡◌, refl, sym, ◌∙◌}
use mathlib.Core.List.{List, [], ◌∷◌}
use Prim.Native.Nat.{ℕ, suc, ◌+◌, ◌*◌, ◌≤◌, ◌<◌, ◌^◌}
use native.Mathlib.Nat.{add-zero, mul-add, mul_assoc, mul_left_comm, mul-le-mul_left, mul-le-mul_right, le_of_mul-le-mul_left, mul-zero}
use native.Mathlib.Omega.{arith}
use lib.Dec.{lit<}
use lib.ListN.{length}
use Rattle.series.specs.Poly.{plus, scale, value}
use Rattle.series.specs.Shift.{shift, back}
use Rattle.series.specs.Near.{Near, off}
use Rattle.series.specs.Stands.{Stands}
use Rattle.series.proofs.Values.{value-plus, value-scale}
use Rattle.series.proofs.Shifts.{value-shift, value-back}
use Rattle.series.proofs.Nears.{near-off}
use Rattle.series.proofs.Steps.{lifted}
use Rattle.sine_table.specs.Row.{row_den}
use Rattle.sine_table.proofs.Nodes.{series_den, distance}

-- t at 2 ^ 61 is within e of 3 + (g - l) / y
pub record Close (e t y g l : ℕ) : Type 0 where
  pub above : t * y + 2 ^ 61 * l ≤ 3 * 2 ^ 61 * y + 2 ^ 61 * g + e * y
  pub below : 3 * 2 ^ 61 * y + 2 ^ 61 * g ≤ t * y + 2 ^ 61 * l + e * y

-- the constant and the scaled list, as numbers: r and f are the denominators, y is d ^ 43
left_is : (n a d k c : ℕ) (p : List ℕ) → value (suc n) (plus (k ∷ []) (scale c p)) a d ≡ k * d ^ suc n + c * value (suc n) p a d
unfolding value
left_is n a d k c p = value-plus (suc n) (k ∷ []) (scale c p) a d ∙ rw (value-scale (suc n) c p a d, mul-zero a, add-zero) refl

module _ (r f y t : ℕ) (r-pos : 0 < r) (p m g l e : ℕ) (e-small : e ≤ 2 ^ 14 * r * f) where
  z : ℕ
  z = r * (f * y)

  e_is : e * y ≤ 2 ^ 14 * z
  unfolding z
  e_is =
      let i : e * y ≤ 2 ^ 14 * r * f * y = mul-le-mul_right y e-small in
      let j : 2 ^ 14 * r * f * y ≡ 2 ^ 14 * (r * (f * y)) = rw (mul_assoc (2 ^ 14 * r) f y) (mul_assoc (2 ^ 14) r (f * y)) in
      omega arith

  unit : (k : ℕ) → k * r * f * y ≡ k * z
  unfolding z
  unit k = rw (mul_assoc (k * r) f y) (mul_assoc k r (f * y))

  turn : (k : ℕ) → f * (k * (r * y)) ≡ k * z
  unfolding z
  turn k = rw (mul_left_comm f k (r * y), mul_left_comm f r y) refl

  pulled : (k : ℕ) → r * (k * (f * y)) ≡ k * z
  unfolding z
  pulled k = mul_left_comm r k (f * y)

  close_below : 3 * 2 ^ 61 * r * f * y + 2 ^ 61 * r * g + f * m ≤ f * p + 2 ^ 61 * r * l + e * y → p ≤ t * (r * y) + m + 624 * (r * y) →
      3 * 2 ^ 61 * (f * y) + 2 ^ 61 * g ≤ t * (f * y) + 2 ^ 61 * l + 17008 * (f * y)
  close_below h i =
      let i' = mul-le-mul_left f i in
      let x₁ = mul-add f (t * (r * y) + m) (624 * (r * y)) in
      let x₂ = mul-add f (t * (r * y)) m in
      le_of_mul-le-mul_left {k = r}
      (rw (
        mul-add r (3 * 2 ^ 61 * (f * y)) (2 ^ 61 * g),
        mul-add r (t * (f * y) + 2 ^ 61 * l) (17008 * (f * y)),
        mul-add r (t * (f * y)) (2 ^ 61 * l),
        pulled (3 * 2 ^ 61),
        pulled t,
        pulled 17008,
      )
      (omega (arith, e_is, unit (3 * 2 ^ 61), turn t, turn 624, mul_left_comm r (2 ^ 61) g, mul_left_comm r (2 ^ 61) l, mul_assoc (2 ^ 61) r g, mul_assoc (2 ^ 61) r l)))
      r-pos

  close_above : f * p + 2 ^ 61 * r * l ≤ 3 * 2 ^ 61 * r * f * y + 2 ^ 61 * r * g + f * m + e * y → t * (r * y) + m ≤ p + 624 * (r * y) →
      t * (f * y) + 2 ^ 61 * l ≤ 3 * 2 ^ 61 * (f * y) + 2 ^ 61 * g + 17008 * (f * y)
  close_above h i =
      let i' = mul-le-mul_left f i in
      let x₁ = mul-add f p (624 * (r * y)) in
      let x₂ = mul-add f (t * (r * y)) m in
      le_of_mul-le-mul_left {k = r}
      (rw (
        mul-add r (t * (f * y)) (2 ^ 61 * l),
        mul-add r (3 * 2 ^ 61 * (f * y) + 2 ^ 61 * g) (17008 * (f * y)),
        mul-add r (3 * 2 ^ 61 * (f * y)) (2 ^ 61 * g),
        pulled (3 * 2 ^ 61),
        pulled t,
        pulled 17008,
      )
      (omega (arith, e_is, unit (3 * 2 ^ 61), turn t, turn 624, mul_left_comm r (2 ^ 61) g, mul_left_comm r (2 ^ 61) l, mul_assoc (2 ^ 61) r g, mul_assoc (2 ^ 61) r l)))
      r-pos

den_pos : 0 < row_den
unfolding row_den
den_pos = lit< tt

-- the lists of the series about a node, u and v, against the rule's, as numbers
weighed : (r f e a d t : ℕ) (p m : List ℕ) → 0 < r → e ≤ 2 ^ 14 * r * f → length p ≤ 8 → length m ≤ 8 → Stands a d 624 t r 7 p m →
    (u v : List ℕ) (g l x : ℕ) → value 43 u a d ≡ g + x → value 43 v a d ≡ l + x →
    Near (e * d ^ 43) (value 43 (plus (3 * 2 ^ 61 * r * f ∷ []) (scale (2 ^ 61 * r) u)) a d) (value 43 (scale (2 ^ 61 * r) v) a d) (value 43 (scale f p) a d) (value 43 (scale f m) a d) →
    Close 17008 t (f * d ^ 43) g l
weighed r f e a d t p m pos fine lp lm w u v g l x eg el n =
    let i₁ = left_is 42 a d (3 * 2 ^ 61 * r * f) (2 ^ 61 * r) u in
    let i₂ = value-scale 43 (2 ^ 61 * r) v a d in
    let i₃ = value-scale 43 f p a d in
    let i₄ = value-scale 43 f m a d in
    let k₁ : 2 ^ 61 * r * value 43 u a d ≡ 2 ^ 61 * r * g + 2 ^ 61 * r * x = rw eg (mul-add (2 ^ 61 * r) g x) in
    let k₂ : 2 ^ 61 * r * value 43 v a d ≡ 2 ^ 61 * r * l + 2 ^ 61 * r * x = rw el (mul-add (2 ^ 61 * r) l x) in
    let w43 : Stands a d 624 t r 43 p m = lifted 36 lp lm w in
    record {
      above = close_above r f (d ^ 43) t pos (value 43 p a d) (value 43 m a d) g l e fine (omega (arith, n.below)) w43.above;
      below = close_below r f (d ^ 43) t pos (value 43 p a d) (value 43 m a d) g l e fine (omega (arith, n.above)) w43.below;
    }

module _ (j a d t : ℕ) (gains losses p m : List ℕ) (h : a ≤ d) (lg : length gains ≤ 44) (ll : length losses ≤ 44) (lp : length p ≤ 8) (lm : length m ≤ 8)
    (w : Stands a d 624 t row_den 7 p m) where
  sides : (u v : List ℕ) → distance u v p m ≤ 2 ^ 14 * row_den * series_den → (g l : ℕ) (x : ℕ) → value 43 u a d ≡ g + x → value 43 v a d ≡ l + x →
      Close 17008 t (series_den * d ^ 43) g l
  unfolding distance
  sides u v fine g l x eg el =
      weighed row_den series_den (off (plus (3 * 2 ^ 61 * row_den * series_den ∷ []) (scale (2 ^ 61 * row_den) u)) (scale (2 ^ 61 * row_den) v) (scale series_den p) (scale series_den m))
      a d t p m den_pos fine lp lm w u v g l x eg el
      (near-off 43 a d (plus (3 * 2 ^ 61 * row_den * series_den ∷ []) (scale (2 ^ 61 * row_den) u)) (scale (2 ^ 61 * row_den) v) (scale series_den p) (scale series_den m) h)

  pub close_up : distance (shift j gains) (shift j losses) p m ≤ 2 ^ 14 * row_den * series_den →
      Close 17008 t (series_den * d ^ 43) (value 43 gains (j * d + a) d) (value 43 losses (j * d + a) d)
  close_up fine =
      sides (shift j gains) (shift j losses) fine (value 43 gains (j * d + a) d) (value 43 losses (j * d + a) d) 0
      (value-shift 43 j gains a d lg ∙ sym (add-zero _)) (value-shift 43 j losses a d ll ∙ sym (add-zero _))

  pub close_down : (b : ℕ) → b + a ≡ j * d →
      distance (plus (back j gains).even (back j losses).odd) (plus (back j gains).odd (back j losses).even) p m ≤ 2 ^ 14 * row_den * series_den →
      Close 17008 t (series_den * d ^ 43) (value 43 gains b d) (value 43 losses b d)
  close_down b e fine =
      let g = back j gains in
      let l = back j losses in
      let x = value 43 g.odd a d in
      let y = value 43 l.odd a d in
      sides (plus g.even l.odd) (plus g.odd l.even) fine (value 43 gains b d) (value 43 losses b d) (x + y)
      (value-plus 43 g.even l.odd a d ∙ omega (arith, value-back 43 j gains a b d e lg))
      (value-plus 43 g.odd l.even a d ∙ omega (arith, value-back 43 j losses a b d e ll))
