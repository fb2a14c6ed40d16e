-- The rule's number for the angle x / d, of which n is the whole part at 2 ^ 61, against the series there.
use mathlib.Core.Path.{◌≡◌, refl, sym, ◌∙◌, ap, subst}
use mathlib.Core.List.{List, []}
use mathlib.Core.Bool.{Bool, true, false, not}
use Prim.Native.Nat.{ℕ, ◌+◌, ◌*◌, ◌-◌, ◌≤◌, ◌<◌, ◌^◌}
use native.Mathlib.Nat.{one-le-pow, mul-add, add-mul, mul_assoc, mul_left_comm, mul_comm, mul-le-mul_right, le_of_mul-le-mul_left, pow-suc, pow-zero, one-mul, zero-mul}
use native.Mathlib.Omega.{arith}
use lib.Dec.{lit≤, lit<}
use lib.ListN.{length, get_or}
use borrow.Author.Tests.{ltb-true, ltb-false}
use Rattle.fixed.specs.High.{high}
use Rattle.series.specs.Poly.{value, weigh}
use Rattle.series.specs.Stands.{Stands}
use Rattle.series.proofs.Values.{value-weigh}
use Rattle.sine_table.specs.Table.{sines, cosines}
use Rattle.series.specs.Factorial.{factorial}
use Rattle.sine_table.specs.Series.{over, every_fourth, sine_gains, sine_losses, cosine_gains, cosine_losses}
use Rattle.sine_table.specs.Row.{line, turned_plus, turned_minus}
use Rattle.sine_table.proofs.Nodes.{spread, series_den, near_row, row_above, row_below, sine_row, cosine_row}
use Rattle.sine_table.proofs.Flat.{flat, sine-flat, cosine-flat}
use Rattle.sine.specs.Node.{node, under, apart, rest}
use Rattle.sine.specs.Short.{short_sine, short_versine}
use Rattle.sine.specs.Rule.{turned, sine_units, cosine_units}
use Rattle.sine.proofs.Sizes.{rest_le, node-sine-le, node-cosine-le}
use Rattle.sine_bound.proofs.Kernel.{turned_stands}
use Rattle.sine_bound.proofs.Close.{Close, close_up, close_down}
use Rattle.sine_bound.proofs.Peak.{InRange, turned-lengths, in_range_lem}

-- g is within 32 of a * 2 ^ 62 / d
line_stands : (a d g : ℕ) → g * d ≤ a * 2 ^ 62 + 32 * d → a * 2 ^ 62 ≤ g * d + 32 * d → Stands a d 32 g 1 1 line []
unfolding value line
line_stands a d g h i =
    let e : 1 * d ^ 1 ≡ d = one-mul (d ^ 1) ∙ pow-suc d 0 ∙ ap (λ (z : ℕ). z * d) (pow-zero d) ∙ one-mul d in
    record { above = rw (e, zero-mul (d ^ 1)) (omega arith); below = rw (e, zero-mul (d ^ 1)) (omega arith) }

sine-lengths : (length (spread sine_gains) ≤ 44) × (length (spread sine_losses) ≤ 44)
unfolding spread weigh sine_gains sine_losses over every_fourth
sine-lengths = (lit≤ tt, lit≤ tt)

cosine-lengths : (length (spread cosine_gains) ≤ 44) × (length (spread cosine_losses) ≤ 44)
unfolding spread weigh cosine_gains cosine_losses over every_fourth
cosine-lengths = (lit≤ tt, lit≤ tt)

-- the rule's number of the angle n for a row b, c
unfoldable pub number : ℕ → ℕ → ℕ → Bool → ℕ
number b c n f = turned b c (short_versine (high (rest n) (rest n))) (short_sine (rest n) (high (rest n) (rest n))) f

-- a common factor
less : (c e t y g l : ℕ) → 0 < c → Close e t (c * y) (c * g) (c * l) → Close e t y g l
less c e t y g l pos w =
    record {
      above = le_of_mul-le-mul_left {k = c}
          (rw (mul-add c (t * y) (2 ^ 61 * l), mul-add c (3 * 2 ^ 61 * y + 2 ^ 61 * g) (e * y), mul-add c (3 * 2 ^ 61 * y) (2 ^ 61 * g))
          (omega (arith, w.above, mul_left_comm c t y, mul_left_comm c (2 ^ 61) l, mul_left_comm c (3 * 2 ^ 61) y, mul_left_comm c (2 ^ 61) g, mul_left_comm c e y)))
          pos;
      below = le_of_mul-le-mul_left {k = c}
          (rw (mul-add c (3 * 2 ^ 61 * y) (2 ^ 61 * g), mul-add c (t * y + 2 ^ 61 * l) (e * y), mul-add c (t * y) (2 ^ 61 * l))
          (omega (arith, w.below, mul_left_comm c t y, mul_left_comm c (2 ^ 61) l, mul_left_comm c (3 * 2 ^ 61) y, mul_left_comm c (2 ^ 61) g, mul_left_comm c e y)))
          pos;
    }

den_is : (y : ℕ) → series_den * y ≡ 16 ^ 43 * (factorial 43 * y)
unfolding series_den
den_is y = rw (mul_comm (factorial 43) (16 ^ 43)) (mul_assoc (16 ^ 43) (factorial 43) y)

-- the series of x / 16 at 16 times the angle
unspread : (t x d : ℕ) (p m : List ℕ) → Close 17008 t (series_den * d ^ 43) (value 43 (spread p) (16 * x) d) (value 43 (spread m) (16 * x) d) →
    Close 17008 t (factorial 43 * d ^ 43) (value 43 p x d) (value 43 m x d)
unfolding spread
unspread t x d p m w =
    less (16 ^ 43) 17008 t (factorial 43 * d ^ 43) (value 43 p x d) (value 43 m x d) (lit< tt) (rw (value-weigh 43 p 16 x d, value-weigh 43 m 16 x d, den_is (d ^ 43)) at w)

module _ (n x d : ℕ) (d-pos : 0 < d) (n-lo : n * d ≤ 2 ^ 61 * x) (n-hi : 2 ^ 61 * x ≤ (n + 1) * d) (n-small : n < 203 * 2 ^ 56) where
  j : ℕ
  j = node n

  in_table : j < 102
  unfolding j node
  in_table = omega arith

  -- above the node: 16 x is j d + a
  module _ (side : under n ≡ false) where
    k : ℕ
    k = n - j * 2 ^ 57

    k_is : k + j * 2 ^ 57 ≡ n
    unfolding k j under
    k_is = omega (arith, ltb-false n (node n * 2 ^ 57) side)

    k_small : k ≤ 2 ^ 56
    unfolding k j node
    k_small = omega arith

    rest_is : rest n ≡ k * 2 ^ 5
    unfolding rest apart k j under
    rest_is = rw side refl

    parts : k * d + 2 ^ 57 * (j * d) ≡ n * d
    parts =
        let e : j * 2 ^ 57 * d ≡ 2 ^ 57 * (j * d) = rw (mul_comm j (2 ^ 57)) (mul_assoc (2 ^ 57) j d) in
        sym (ap (λ (z : ℕ). k * d + z) e) ∙ sym (add-mul k (j * 2 ^ 57) d) ∙ ap (λ (z : ℕ). z * d) k_is

    a : ℕ
    a = 16 * x - j * d

    a_is : j * d + a ≡ 16 * x
    unfolding a
    a_is = omega (arith, parts, n-lo)

    a_size : 2 ^ 57 * a ≤ k * d + d
    a_size = omega (arith, parts, a_is, n-hi, add-mul n 1 d)

    a_small : a ≤ d
    a_small = omega (arith, a_size, mul-le-mul_right d k_small)

    start : Stands a d 32 (rest n) 1 1 line []
    start = rw rest_is (line_stands a d (k * 2 ^ 5) (omega (arith, e, parts, a_is, n-lo)) (omega (arith, e, a_size)))
      where
        e : k * 2 ^ 5 * d ≡ 2 ^ 5 * (k * d)
        e = rw (mul_comm k (2 ^ 5)) (mul_assoc (2 ^ 5) k d)

    above_close : (b c : ℕ) (gains losses : List ℕ) (f : Bool) → b ≤ 2 ^ 62 → c ≤ 2 ^ 62 → length (spread gains) ≤ 44 → length (spread losses) ≤ 44 →
        near_row gains losses f j b c ≡ true → Close 17008 (number b c n f) (factorial 43 * d ^ 43) (value 43 gains x d) (value 43 losses x d)
    unfolding number
    above_close b c gains losses f hb hc lg ll ok =
        unspread _ x d gains losses
        (rw a_is at
        (close_up j a d _ (spread gains) (spread losses) (turned_plus b c f) (turned_minus b c f) a_small lg ll (turned-lengths b c f).0 (turned-lengths b c f).1
        (turned_stands a d (rest n) (rest_le n) start b c hb hc f) (row_above gains losses f j b c ok)))

  -- below the node: 16 x is j d - a
  module _ (side : under n ≡ true) where
    k' : ℕ
    k' = j * 2 ^ 57 - n

    k_is' : k' + n ≡ j * 2 ^ 57
    unfolding k' j under
    k_is' = omega (arith, ltb-true n (node n * 2 ^ 57) side)

    k_pos' : 1 ≤ k'
    unfolding k' j under
    k_pos' = omega (arith, ltb-true n (node n * 2 ^ 57) side)

    k_small' : k' ≤ 2 ^ 56
    unfolding k' j node
    k_small' = omega arith

    rest_is' : rest n ≡ k' * 2 ^ 5
    unfolding rest apart k' j under
    rest_is' = rw side refl

    parts' : k' * d + n * d ≡ 2 ^ 57 * (j * d)
    parts' =
        let e : j * 2 ^ 57 * d ≡ 2 ^ 57 * (j * d) = rw (mul_comm j (2 ^ 57)) (mul_assoc (2 ^ 57) j d) in
        sym (add-mul k' n d) ∙ ap (λ (z : ℕ). z * d) k_is' ∙ e

    a' : ℕ
    a' = j * d - 16 * x

    at_least : d ≤ k' * d
    at_least = omega (arith, mul-le-mul_right d k_pos', one-mul d)

    a_is' : 16 * x + a' ≡ j * d
    unfolding a'
    a_is' = omega (arith, parts', n-hi, add-mul n 1 d, at_least)

    a_size' : 2 ^ 57 * a' ≤ k' * d
    a_size' = omega (arith, parts', a_is', n-lo)

    a_small' : a' ≤ d
    a_small' = omega (arith, a_size', mul-le-mul_right d k_small')

    start' : Stands a' d 32 (rest n) 1 1 line []
    start' = rw rest_is' (line_stands a' d (k' * 2 ^ 5) (omega (arith, e, parts', a_is', n-hi, add-mul n 1 d)) (omega (arith, e, a_size')))
      where
        e : k' * 2 ^ 5 * d ≡ 2 ^ 5 * (k' * d)
        e = rw (mul_comm k' (2 ^ 5)) (mul_assoc (2 ^ 5) k' d)

    below_close : (b c : ℕ) (gains losses : List ℕ) (f : Bool) → b ≤ 2 ^ 62 → c ≤ 2 ^ 62 → length (spread gains) ≤ 44 → length (spread losses) ≤ 44 →
        near_row gains losses f j b c ≡ true → Close 17008 (number b c n (not f)) (factorial 43 * d ^ 43) (value 43 gains x d) (value 43 losses x d)
    unfolding number
    below_close b c gains losses f hb hc lg ll ok =
        unspread _ x d gains losses
        (close_down j a' d _ (spread gains) (spread losses) (turned_plus b c (not f)) (turned_minus b c (not f)) a_small' lg ll (turned-lengths b c (not f)).0 (turned-lengths b c (not f)).1
        (turned_stands a' d (rest n) (rest_le n) start' b c hb hc (not f)) (16 * x) a_is' (row_below gains losses f j b c ok))

  -- THE RULE'S NUMBERS: on either side within 17008 at 2 ^ 61 of 3 more than the series
  either_close : (b c : ℕ) (gains losses : List ℕ) (f g : Bool) → b ≤ 2 ^ 62 → c ≤ 2 ^ 62 → length (spread gains) ≤ 44 → length (spread losses) ≤ 44 →
      near_row gains losses f j b c ≡ true → (under n ≡ false → g ≡ f) → (under n ≡ true → g ≡ not f) →
      Close 17008 (number b c n g) (factorial 43 * d ^ 43) (value 43 gains x d) (value 43 losses x d)
  either_close b c gains losses f g hb hc lg ll ok up down = go (under n) refl
    where
      Goal : Bool → Type 0
      Goal u = Close 17008 (number b c n u) (factorial 43 * d ^ 43) (value 43 gains x d) (value 43 losses x d)

      go : (u : Bool) → under n ≡ u → Goal g
      go false e = subst Goal (sym (up e)) (above_close e b c gains losses f hb hc lg ll ok)
      go true e = subst Goal (sym (down e)) (below_close e b c gains losses f hb hc lg ll ok)

  pub sine_close : Close 17008 (sine_units n) (factorial 43 * d ^ 43) (value 43 sine_gains x d) (value 43 sine_losses x d)
  unfolding sine_units number j
  sine_close =
      either_close (get_or sines j 0) (get_or cosines j 0) sine_gains sine_losses false (under n) (node-sine-le j) (node-cosine-le j)
      sine-lengths.0 sine-lengths.1 (sine_row j in_table) (λ e. e) (λ e. e)

  pub cosine_close : Close 17008 (cosine_units n) (factorial 43 * d ^ 43) (value 43 cosine_gains x d) (value 43 cosine_losses x d)
  unfolding cosine_units number j
  cosine_close =
      either_close (get_or cosines j 0) (get_or sines j 0) cosine_gains cosine_losses true (not (under n)) (node-cosine-le j) (node-sine-le j)
      cosine-lengths.0 cosine-lengths.1 (cosine_row j in_table) (λ e. ap not e) (λ e. ap not e)

  -- and within 1 of their middle, but for 17008
  either_range : (b c : ℕ) (f : Bool) → b ≤ 2 ^ 62 → c ≤ 2 ^ 62 → flat b c f ≡ true → InRange (number b c n f)
  unfolding number
  either_range b c f hb hc ok = go (under n) refl
    where
      at : (a : ℕ) → a ≤ d → Stands a d 32 (rest n) 1 1 line [] → InRange (number b c n f)
      at a a_small start = in_range_lem a d _ b c f (one-le-pow 7 d d-pos) a_small (turned_stands a d (rest n) (rest_le n) start b c hb hc f) ok

      go : (u : Bool) → under n ≡ u → InRange (number b c n f)
      go false e = at (a e) (a_small e) (start e)
      go true e = at (a' e) (a_small' e) (start' e)

  pub sine_range : InRange (sine_units n)
  unfolding sine_units number j
  sine_range = either_range (get_or sines j 0) (get_or cosines j 0) (under n) (node-sine-le j) (node-cosine-le j) (sine-flat j in_table (under n))

  pub cosine_range : InRange (cosine_units n)
  unfolding cosine_units number j
  cosine_range = either_range (get_or cosines j 0) (get_or sines j 0) (not (under n)) (node-cosine-le j) (node-sine-le j) (cosine-flat j in_table (not (under n)))
