-- How large each number of the rule can be, so that nothing wraps.
use Rattle.std.proofs.Common.{◌≡◌, ℕ, zero, suc, ◌+◌, ◌-◌, ◌*◌, ◌/◌, ◌^◌, ◌<◌, ◌≤◌, Bool, true, false, cond, not, ◌&&◌, T, eqb, ltb, leb, List, [], ◌∷◌, get_or, refl, mul-le-mul, arith, leb→le, ltb-false, le-ltb, eqb-true}
use Rattle.fixed.specs.High.{high}
use Rattle.fixed.proofs.Products.{high_le}
use Rattle.sine_table.specs.Table.{sines, cosines}
use Rattle.sine.specs.Node.{node, under, apart, rest}
use Rattle.sine.specs.Short.{bend, lack, short_sine, short_versine}
use Rattle.sine.specs.Rule.{turned, sine_units, cosine_units, ranged}

pub rest_le : (n : ℕ) → rest n ≤ 2 ^ 61
unfolding rest apart node
rest_le n = go (ltb n ((n + 2 ^ 56) / 2 ^ 57 * 2 ^ 57)) refl
  where
    go : (b : Bool) → ltb n ((n + 2 ^ 56) / 2 ^ 57 * 2 ^ 57) ≡ b →
        cond b (((n + 2 ^ 56) / 2 ^ 57 * 2 ^ 57 - n) * 2 ^ 5) ((n - (n + 2 ^ 56) / 2 ^ 57 * 2 ^ 57) * 2 ^ 5) ≤ 2 ^ 61
    go true e = omega arith
    go false e = omega arith

pub square_le : (g : ℕ) → g ≤ 2 ^ 61 → high g g ≤ 2 ^ 60
square_le g h = omega (arith, high_le g g (2 ^ 61) (2 ^ 61) h h)

-- the last two terms of a short series
pub bend-le : (k c s w : ℕ) → w ≤ 2 ^ 32 → bend k c s w ≤ k
unfolding bend
bend-le k c s w h =
    let i : w * (k - w * c / s) ≤ 2 ^ 32 * k = mul-le-mul h (omega arith) in
    omega arith

pub bent_le : (k c s w : ℕ) → w ≤ 2 ^ 32 → w * bend k c s w ≤ w * k
bent_le k c s w h =
    let i : w ≤ w = omega arith in
    mul-le-mul i (bend-le k c s w h)

pub lack-le : (z : ℕ) → z ≤ 2 ^ 60 → lack z ≤ 2 ^ 58
unfolding lack
lack-le z h = omega arith

pub sine-le : (g z : ℕ) → g ≤ 2 ^ 61 → short_sine g z ≤ 2 ^ 61
unfolding short_sine
sine-le g z h = omega arith

pub versine_le : (z : ℕ) → z ≤ 2 ^ 60 → short_versine z ≤ 2 ^ 59
unfolding short_versine
versine_le z h = omega arith

-- every number of the table
all_below : ℕ → List ℕ → Bool
all_below b [] = true
all_below b (a ∷ l) = leb a b && all_below b l

get_d_le : (b : ℕ) (l : List ℕ) (i : ℕ) → T (all_below b l) → get_or l i 0 ≤ b
unfolding all_below
get_d_le b [] i t = omega arith
get_d_le b (a ∷ l) zero t = leb→le a b (first (leb a b) t)
  where
    first : (u : Bool) → T (u && all_below b l) → T u
    first true t = tt
    first false t = t
get_d_le b (a ∷ l) (suc i) t = get_d_le b l i (second (leb a b) t)
  where
    second : (u : Bool) → T (u && all_below b l) → T (all_below b l)
    second true t = t
    second false t = absurd t

pub node-sine-le : (j : ℕ) → get_or sines j 0 ≤ 2 ^ 62
unfolding sines all_below
node-sine-le j = get_d_le (2 ^ 62) sines j tt

pub node-cosine-le : (j : ℕ) → get_or cosines j 0 ≤ 2 ^ 62
unfolding cosines all_below
node-cosine-le j = get_d_le (2 ^ 62) cosines j tt

pub turn_le : (c s : ℕ) → c ≤ 2 ^ 62 → s ≤ 2 ^ 61 → high c s ≤ 2 ^ 61
turn_le c s hc hs = omega (arith, high_le c s (2 ^ 62) (2 ^ 61) hc hs)

pub across_le : (b v : ℕ) → b ≤ 2 ^ 62 → v ≤ 2 ^ 59 → high b v ≤ 2 ^ 59
across_le b v hb hv = omega (arith, high_le b v (2 ^ 62) (2 ^ 59) hb hv)

pub turned_lt : (b c v s : ℕ) (down : Bool) → b ≤ 2 ^ 62 → c ≤ 2 ^ 62 → v ≤ 2 ^ 59 → s ≤ 2 ^ 61 → turned b c v s down < 2 ^ 63 + 2 ^ 62
unfolding turned
turned_lt b c v s true hb hc hv hs = omega arith
turned_lt b c v s false hb hc hv hs =
    let e : high c s ≤ 2 ^ 61 = turn_le c s hc hs in
    omega arith

pub sine_units-lt : (n : ℕ) → sine_units n < 2 ^ 63 + 2 ^ 62
unfolding sine_units
sine_units-lt n =
    let g = rest n in
    let z = square_le g (rest_le n) in
    turned_lt _ _ _ _ (under n) (node-sine-le (node n)) (node-cosine-le (node n)) (versine_le (high g g) z) (sine-le g (high g g) (rest_le n))

pub cosine_units-lt : (n : ℕ) → cosine_units n < 2 ^ 63 + 2 ^ 62
unfolding cosine_units
cosine_units-lt n =
    let g = rest n in
    let z = square_le g (rest_le n) in
    turned_lt _ _ _ _ (not (under n)) (node-cosine-le (node n)) (node-sine-le (node n)) (versine_le (high g g) z) (sine-le g (high g g) (rest_le n))

pub ranged_range : (k : ℕ) → (2 ^ 54 ≤ ranged k) × (ranged k ≤ 2 ^ 55)
unfolding ranged
ranged_range k = low (ltb k (2 ^ 54)) refl
  where
    high' : (b : Bool) → ltb (2 ^ 55) k ≡ b → 2 ^ 54 ≤ k → (2 ^ 54 ≤ cond b (2 ^ 55) k) × (cond b (2 ^ 55) k ≤ 2 ^ 55)
    high' true e h = (omega arith, omega arith)
    high' false e h = (h, ltb-false (2 ^ 55) k e)

    low : (b : Bool) → ltb k (2 ^ 54) ≡ b → (2 ^ 54 ≤ cond b (2 ^ 54) (cond (ltb (2 ^ 55) k) (2 ^ 55) k)) × (cond b (2 ^ 54) (cond (ltb (2 ^ 55) k) (2 ^ 55) k) ≤ 2 ^ 55)
    low true e = (omega arith, omega arith)
    low false e = high' (ltb (2 ^ 55) k) refl (ltb-false k (2 ^ 54) e)

-- a number that is in the range stays as it is
module _ (k : ℕ) (inside : eqb (k / 2 ^ 54) 1 ≡ true) where
  pub inside_range : (2 ^ 54 ≤ k) × (k ≤ 2 ^ 55)
  inside_range =
      let q : k / 2 ^ 54 ≡ 1 = eqb-true (k / 2 ^ 54) 1 inside in
      (omega (arith, q), omega (arith, q))

  pub inside_ranged : ranged k ≡ k
  unfolding ranged
  inside_ranged = rw (le-ltb k (2 ^ 54) inside_range.0, le-ltb (2 ^ 55) k inside_range.1) refl
