-- What the rule's fixed-point numbers stand for: the polynomials of a row, of t = a / d, where t / 16 is the rest of the angle, with the
-- errors of all cuts added up.
use mathlib.Core.Path.{◌≡◌}
use mathlib.Core.List.{[], ◌∷◌}
use mathlib.Core.Bool.{Bool, true, false}
use Prim.Native.Nat.{ℕ, ◌+◌, ◌*◌, ◌-◌, ◌/◌, ◌≤◌, ◌<◌, ◌^◌}
use native.Mathlib.Nat.{mul_comm, mul-one, div-mul-le_self, lt-mul-div-succ}
use native.Mathlib.Omega.{arith}
use lib.Dec.{lit≤, lit<}
use Rattle.fixed.specs.High.{high}
use Rattle.fixed.proofs.Products.{high_close, high_close_swapped, high_le}
use Rattle.series.specs.Poly.{plus, scale, times}
use Rattle.series.specs.Stands.{Stands}
use Rattle.series.proofs.Steps.{constant, lifted, extended, sum, difference, product, cut}
use Rattle.sine_table.specs.Row.{line, square, bend_plus, bend_minus, lack_plus, lack_minus, sine_plus, sine_minus, versine_plus, versine_minus, row_den, base_plus, base_minus, turned_plus, turned_minus}
use Rattle.sine.specs.Short.{bend, lack, short_sine, short_versine}
use Rattle.sine.specs.Rule.{turned}
use Rattle.sine.proofs.Sizes.{square_le, bend-le, bent_le, lack-le, sine-le, versine_le, turn_le, across_le}

module _ (a d g : ℕ) (small : g ≤ 2 ^ 61) (start : Stands a d 32 g 1 1 line []) where
  z : ℕ
  z = high g g

  w : ℕ
  w = high g g / 2 ^ 28

  z_small : z ≤ 2 ^ 60
  unfolding z
  z_small = square_le g small

  w_small : w ≤ 2 ^ 32
  unfolding w
  w_small = omega (arith, square_le g small)

  z_stands : Stands a d 36 z (2 ^ 62) 2 square []
  unfolding z square line times
  z_stands = product 36 3 (2 ^ 62) (high g g) (2 ^ 61) (2 ^ 61) (lit≤ tt) (lit≤ tt) (lit≤ tt) small small (high_close g g).0 (high_close g g).1 (lit≤ tt) start start

  w_stands : Stands a d 2 w (2 ^ 90) 2 square []
  unfolding w z
  w_stands = cut 2 (2 ^ 28) (high g g / 2 ^ 28) (omega arith) (omega arith) (lit≤ tt) z_stands

  -- the last two terms of a short series, and w times them cut by u: k - w * c / s, then w * that / 2 ^ 32, then w * that / u
  module _ (k c s : ℕ) (k-small : k ≤ 3000000000) (c-small : c < 2 ^ 32) (s-large : 2 ^ 40 ≤ s) (fits : w * c / s ≤ k) where
    inner : ℕ
    inner = k - w * c / s

    s_pos : 0 < s
    s_pos = omega arith

    inner_stands : Stands a d 2 inner (s * 2 ^ 90) 2 (plus (scale (s * 2 ^ 90) (k ∷ [])) []) (plus (scale (s * 2 ^ 90) []) (times square (c ∷ [])))
    unfolding inner times plus scale square line
    inner_stands =
        let c-le : c ≤ 2 ^ 32 = omega arith in
        let lo : w * c / s * s ≤ w * c = div-mul-le_self (w * c) s in
        let hi : w * c ≤ (w * c / s + 1) * s = omega (arith, lt-mul-div-succ (w * c) s_pos, mul_comm s (w * c / s + 1)) in
        difference fits (rw (mul-one (s * 2 ^ 90)) at (extended (s * 2 ^ 90) (lifted 2 (lit≤ tt) (lit≤ tt) (constant a d k))))
        (product 2 1 s (w * c / s) (2 ^ 32) (2 ^ 32) (lit≤ tt) (lit≤ tt) (lit≤ tt) c-le w_small lo hi (omega arith) w_stands (constant a d c))

    bend_stands : Stands a d 5 (bend k c s w) (2 ^ 32 * (s * 2 ^ 90 * 2 ^ 90)) 4
        (times (plus (scale (s * 2 ^ 90) (k ∷ [])) []) square) (times (plus (scale (s * 2 ^ 90) []) (times square (c ∷ []))) square)
    unfolding bend inner times plus scale square line
    bend_stands =
        let e : inner * w ≡ w * inner = mul_comm inner w in
        let h : inner ≤ 3000000000 = omega arith in
        product 5 1 (2 ^ 32) (bend k c s w) (2 ^ 32) 3000000000 (lit≤ tt) (lit≤ tt) (lit≤ tt) w_small h (omega arith) (omega arith) (lit≤ tt) inner_stands w_stands

    bent_stands : (e u : ℕ) → 0 < u → 5 * (2 ^ 32 + 2) + k * 2 + 1 * u ≤ e * u →
        Stands a d e (w * bend k c s w / u) (u * (2 ^ 32 * (s * 2 ^ 90 * 2 ^ 90) * 2 ^ 90)) 6 (bend_plus s k) (bend_minus s c)
    unfolding bend_plus bend_minus times plus scale square line
    bent_stands e u u-pos room =
        let b = bend k c s w in
        let i : b * w ≡ w * b = mul_comm b w in
        let lo : w * b / u * u ≤ w * b = div-mul-le_self (w * b) u in
        let hi : w * b ≤ (w * b / u + 1) * u = omega (arith, lt-mul-div-succ (w * b) u-pos, mul_comm u (w * b / u + 1)) in
        product e 1 u (w * b / u) (2 ^ 32) k (lit≤ tt) (lit≤ tt) (lit≤ tt) w_small (bend-le k c s w w_small) (omega arith) (omega arith) room bend_stands w_stands

  lack_stands : Stands a d 25007 (lack z) (6 * 2 ^ 370) 6 lack_plus lack_minus
  unfolding z lack w lack_plus lack_minus bend_plus bend_minus times plus scale square line
  lack_stands =
      difference (omega (arith, w_small, bent_le 2290649225 3490513021 (2 ^ 48) w w_small))
      (extended (2 ^ 308) (lifted 4 (lit≤ tt) (lit≤ tt) (cut 7 6 (high g g / 6) (omega arith) (omega arith) (lit≤ tt) z_stands)))
      (extended 6 (bent_stands 2290649225 3490513021 (2 ^ 48) (lit≤ tt) (lit< tt) (lit≤ tt) (omega (arith, w_small)) 25000 (2 ^ 20) (lit< tt) (lit≤ tt)))

  sine_stands : Stands a d 83 (short_sine g z) (6 * 2 ^ 440) 7 sine_plus sine_minus
  unfolding short_sine sine_plus sine_minus lack_plus lack_minus bend_plus bend_minus times plus scale square line
  sine_stands =
      let q = lack z in
      let b : q ≤ 2 ^ 58 = lack-le z z_small in
      let h : g ≤ g = omega arith in
      difference (omega (arith, high_le g q g (2 ^ 58) h b)) (extended (6 * 2 ^ 440) (lifted 6 (lit≤ tt) (lit≤ tt) start))
      (cut 51 (2 ^ 8) (high g q / 2 ^ 8) (omega arith) (omega arith) (lit≤ tt)
      (product 12600 3 (2 ^ 62) (high g q) (2 ^ 61) (2 ^ 58) (lit≤ tt) (lit≤ tt) (lit≤ tt) small b (high_close_swapped q g).0 (high_close_swapped q g).1 (lit≤ tt) lack_stands start))

  versine_stands : Stands a d 104019 (short_versine z) (2 ^ 367) 6 versine_plus versine_minus
  unfolding z short_versine w versine_plus versine_minus bend_plus bend_minus times plus scale square line
  versine_stands =
      difference (omega (arith, w_small, bent_le 2863311531 3054159019 (2 ^ 47) w w_small))
      (extended (2 ^ 304) (lifted 4 (lit≤ tt) (lit≤ tt) (cut 19 2 (high g g / 2) (omega arith) (omega arith) (lit≤ tt) z_stands)))
      (bent_stands 2863311531 3054159019 (2 ^ 47) (lit≤ tt) (lit< tt) (lit≤ tt) (omega (arith, w_small)) 104000 (2 ^ 18) (lit< tt) (lit≤ tt))

  -- THE RULE'S NUMBER for a row b, c of the table is within 624 of its polynomial, at 2 ^ 61
  module _ (b c : ℕ) (b-small : b ≤ 2 ^ 62) (c-small : c ≤ 2 ^ 62) where
    v_small : short_versine z ≤ 2 ^ 59
    v_small = versine_le z z_small

    s_small : short_sine g z ≤ 2 ^ 61
    s_small = sine-le g z small

    across : Stands a d 408 (high b (short_versine z) / 2 ^ 8) (2 ^ 437) 6 (times versine_plus (b ∷ [])) (times versine_minus (b ∷ []))
    unfolding versine_plus versine_minus bend_plus bend_minus times plus scale square line
    across =
        let v = short_versine z in
        cut 408 (2 ^ 8) (high b v / 2 ^ 8) (omega arith) (omega arith) (lit≤ tt)
        (product 104022 3 (2 ^ 62) (high b v) (2 ^ 62) (2 ^ 59) (lit≤ tt) (lit≤ tt) (lit≤ tt) b-small v_small
        (high_close_swapped v b).0 (high_close_swapped v b).1 (lit≤ tt) versine_stands (constant a d b))

    base_stands : Stands a d 613 (2 ^ 62 + b - high b (short_versine z) / 2 ^ 8 + short_versine z / 2 ^ 9) (6 * 2 ^ 506) 7 (base_plus b) (base_minus b)
    unfolding base_plus base_minus versine_plus versine_minus bend_plus bend_minus times plus scale square line
    base_stands =
        let v = short_versine z in
        let h : high b v ≤ 2 ^ 59 = across_le b v b-small v_small in
        sum
        (difference (omega arith) (extended (6 * 2 ^ 506) (lifted 7 (lit≤ tt) (lit≤ tt) (constant a d (2 ^ 62 + b))))
        (extended (6 * 2 ^ 69) (lifted 1 (lit≤ tt) (lit≤ tt) across)))
        (extended (6 * 2 ^ 130) (lifted 1 (lit≤ tt) (lit≤ tt) (cut 205 (2 ^ 9) (v / 2 ^ 9) (omega arith) (omega arith) (lit≤ tt) versine_stands)))

    along : Stands a d 7 (high c (short_sine g z) / 2 ^ 4) (6 * 2 ^ 506) 7 (times sine_plus (c ∷ [])) (times sine_minus (c ∷ []))
    unfolding sine_plus sine_minus lack_plus lack_minus bend_plus bend_minus times plus scale square line
    along =
        let s = short_sine g z in
        cut 7 (2 ^ 4) (high c s / 2 ^ 4) (omega arith) (omega arith) (lit≤ tt)
        (product 86 3 (2 ^ 62) (high c s) (2 ^ 62) (2 ^ 61) (lit≤ tt) (lit≤ tt) (lit≤ tt) c-small s_small
        (high_close_swapped s c).0 (high_close_swapped s c).1 (lit≤ tt) sine_stands (constant a d c))

    shared : Stands a d 4 (short_sine g z / 2 ^ 5) (6 * 2 ^ 506) 7 (scale (2 ^ 61) sine_plus) (scale (2 ^ 61) sine_minus)
    shared =
        let s = short_sine g z in
        extended (2 ^ 61) (cut 4 (2 ^ 5) (s / 2 ^ 5) (omega arith) (omega arith) (lit≤ tt) sine_stands)

    pub turned_stands : (down : Bool) → Stands a d 624 (turned b c (short_versine (high g g)) (short_sine g (high g g)) down) row_den 7 (turned_plus b c down) (turned_minus b c down)
    unfolding z turned turned_plus turned_minus row_den
    turned_stands true =
        let v = short_versine z in
        let s = short_sine g z in
        let h : high b v ≤ 2 ^ 59 = across_le b v b-small v_small in
        let i : high c s ≤ 2 ^ 61 = turn_le c s c-small s_small in
        difference (omega arith) (sum base_stands shared) along
    turned_stands false =
        let v = short_versine z in
        let s = short_sine g z in
        let h : high b v ≤ 2 ^ 59 = across_le b v b-small v_small in
        difference (omega (arith, s_small)) (sum base_stands along) shared
