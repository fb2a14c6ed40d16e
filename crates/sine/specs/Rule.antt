-- The rule. The addition theorem turns the node's row of the table by the rest: sin (j / 16 + g) is sin (j / 16) cos g + cos (j / 16)
-- sin g. The table holds one more than the sine and the cosine, so that no number has a sign. One rounding, to 2 ^ -53, ends it.
use Rattle.std.specs.Prelude.{ℕ, ◌+◌, ◌-◌, ◌*◌, ◌/◌, ◌^◌, Bool, false, cond, not, from_bits, nat_le, nat_lt, slice_index, Float}
use Rattle.std.proofs.Math.IntN.{sub_ℕ}
use Rattle.std.specs.Float.{binary64}
use Rattle.std.specs.Float.Ieee.{of_int, neg, mul, rem, lt, eq}
use Rattle.fixed.specs.High.{high}
use Rattle.sine_table.specs.Table.{sines, cosines}
use Rattle.sine.specs.Angle.{tau, units}
use Rattle.sine.specs.Node.{node, under, rest}
use Rattle.sine.specs.Short.{short_sine, short_versine}

-- 3 + (b - 1) cos g + (c - 1) sin g at 2 ^ 61, of b and c at 2 ^ 61, v = 1 - cos g and s = sin g; the sine taken away where `down`
unfoldable pub turned : ℕ → ℕ → ℕ → ℕ → Bool → ℕ
turned b c v s down =
    cond down
    (2 ^ 62 + b - high b v / 2 ^ 8 + v / 2 ^ 9 + s / 2 ^ 5 - high c s / 2 ^ 4)
    (2 ^ 62 + b - high b v / 2 ^ 8 + v / 2 ^ 9 + high c s / 2 ^ 4 - s / 2 ^ 5)

-- 3 more than the sine, and than the cosine, of the angle n, at 2 ^ 61
unfoldable pub sine_units : ℕ → ℕ
sine_units n =
    let g = rest n in
    let z = high g g in
    turned (slice_index sines (node n)) (slice_index cosines (node n)) (short_versine z) (short_sine g z) (under n)

unfoldable pub cosine_units : ℕ → ℕ
cosine_units n =
    let g = rest n in
    let z = high g g in
    turned (slice_index cosines (node n)) (slice_index sines (node n)) (short_versine z) (short_sine g z) (not (under n))

-- the same at 2 ^ 53, to the nearest, a half upwards
unfoldable pub rounded : ℕ → ℕ
rounded t = (t + 2 ^ 7) / 2 ^ 8

-- and not outside of 2 to 4
unfoldable pub ranged : ℕ → ℕ
ranged k = cond (nat_lt k (2 ^ 54)) (2 ^ 54) (cond (nat_lt (2 ^ 55) k) (2 ^ 55) k)

unfoldable pub places : ℕ → ℕ
places t = ranged (rounded t)

-- less 3, as a float, and negated where `flip`
unfoldable pub floated : ℕ → Bool → Float
floated k flip =
    mul binary64 (of_int binary64 (sub_ℕ k (3 * 2 ^ 53)))
    (cond flip (neg (from_bits binary64 0x3ca0000000000000)) (from_bits binary64 0x3ca0000000000000))

unfoldable pub float : ℕ → Bool → Float
float t flip = floated (places t) flip

-- THE SINE AND THE COSINE of x. Where the size of the remainder is below 2 ^ -26 the sine is the remainder, and below 2 ^ -27 the cosine is 1.
unfoldable pub sine : Float → Float
sine x =
    let r = rem binary64 x tau in
    cond (nat_le (2 ^ 35) (units r)) (float (sine_units (units r)) (lt x (from_bits binary64 0))) r

unfoldable pub cosine : Float → Float
cosine x =
    let r = rem binary64 x tau in
    cond (nat_le (2 ^ 34) (units r)) (float (cosine_units (units r)) false) (cond (eq r r) (from_bits binary64 0x3ff0000000000000) r)
