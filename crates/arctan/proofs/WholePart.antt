-- The whole part of 2 ^ 62 u is exact, its upper digits are the whole part j of 32 u, and its other 57 digits are u - j / 32 to within 2 ^ -62.
use Rattle.std.proofs.Common.{◌≡◌, ℕ, ◌+◌, ◌-◌, ◌*◌, ◌/◌, ◌%◌, ◌^◌, ◌<◌, ◌≤◌, min, true, false, not, T, ℤ, pos, sym, refl, ap, ◌∙◌, subst, ⊎_elim, le_trans, le_of_eq, lt_of_lt_of_le, lt_of_le_of_lt, le_of_lt, mul-le-mul_right, mod-lt, mul_assoc, mul_comm, div-lt_iff_lt-mul, add-mul, mul-lt-mul_of_pos_right, div-add-mod', mul-one, le_of_mul-le-mul_right, arith, lit<, lit≤, pow_pos, pow_mono, pow-add}
use native.Mathlib.Nat.{div-div-eq-div-mul, min-eq_left, min-eq_right}
use lib.Count.{count_trailing_zeros}
use lib.Ieee.{Float, nan, inf, fin, binary64, up, down, fits, is_nan, of_bits, of_fields, odd, to_bits, round, mul, to_unsigned}
use lib.Ieee.Exact.{HasValue}
use lib.Ieee.Fits.{down_pos}
use lib.Ieee.Nearest.{div_same}
use Rattle.laws.specs.Fields.{field, digits_of}
use Rattle.laws.specs.Units.{tick, one}
use Rattle.laws.proofs.Units.{one_is, tick_pos}
use Rattle.laws.proofs.Value.{value_same}
use Rattle.laws.proofs.Held.{held, fits_num, fits_den}
use Rattle.laws.proofs.Scaled.{exact_times}
use Rattle.laws.proofs.Truncation.{whole_part}
use Rattle.laws.proofs.Pattern.{Units}
use Rattle.laws.proofs.Logic.{le-or-lt}
use Rattle.laws.proofs.Fields.{field_below, digits_most, units_of_bits, units_of_low_bits}
use Rattle.arctan.specs.Sizes.{InUnit}
use Rattle.arctan.specs.Rule.{place_of}

-- ---- 1 / 32 in units
abbrev pub cell : ℕ
cell = 281474976710656 * tick

pub cell_is : cell ≡ 2 ^ 1069
unfolding tick
cell_is = refl

pub cell_pos : 0 < cell
cell_pos = omega (arith, tick_pos)

-- ---- 2 ^ -62 in units
unfoldable pub part : ℕ
part = 2 ^ 1012

pub part_pos : 0 < part
unfolding part
part_pos = lit< tt

pub cell-part : cell ≡ part * 144115188075855872
unfolding part
cell-part = cell_is

pub one-part : one ≡ part * 4611686018427387904
unfolding part
one-part = one_is

-- ---- 2 ^ 62 u
scaling : of_bits binary64 0x43d0000000000000 ≡ fin false 1 (pos 62)
unfolding of_bits of_fields odd count_trailing_zeros
scaling = refl

-- a number up to 1 is m * 2 ^ i units, m of at most 53 digits
record Unit (m : ℕ) (e : ℤ) : Type 0 where
  i : ℕ
  small : m < 2 ^ 53
  is : m * up e * one ≡ m * 2 ^ i * down e
  low : m * 2 ^ i ≤ one

unit : (m : ℕ) (e : ℤ) → InUnit (fin false m e) → T (fits binary64 (fin false m e)) → Unit m e
unit m e h t =
    let g = held binary64 false m e t in
    let is : m * up e * one ≡ m * 2 ^ g.shift * down e = rw one_is g.units in
    let a : m * up e * one ≤ down e * one = mul-le-mul_right one h in
    let b : m * 2 ^ g.shift * down e ≤ one * down e = le_trans (le_of_eq (sym is)) (le_trans a (le_of_eq (mul_comm (down e) one))) in
    record { i = g.shift; small = g.short; is = is; low = le_of_mul-le-mul_right b (down_pos e) }

scaled : (m : ℕ) (e : ℤ) → InUnit (fin false m e) → T (fits binary64 (fin false m e)) →
    HasValue (mul binary64 (fin false m e) (of_bits binary64 0x43d0000000000000)) false (m * up e * 2 ^ 62) (down e)
unfolding mul
scaled m e h t =
    rw scaling
    (value_same (round binary64 false (m * up e * 2 ^ 62) (down e * 1)) false (m * up e * 2 ^ 62) (down e * 1) (m * up e * 2 ^ 62) (down e)
    (rw (mul-one (down e)) (down_pos e))
    (exact_times false 62 m e (lit≤ tt) (fits_num binary64 false m e t) (fits_den binary64 false m e t) (within (m * up e) (down e) h))
    (rw (mul-one (down e)) refl))
  where
    within : (a d : ℕ) → a ≤ d → a ≤ 8192 * d
    within a d h = omega arith

-- ---- all of it
pub record Placed (u : Float) : Type 0 where
  pub units : ℕ
  pub value : HasValue u false units one
  pub most : units ≤ one
  pub place : place_of u ≡ units / part
  pub row : units / part / 144115188075855872 ≡ units / cell
  pub last : units / cell ≤ 32
  pub low : units / part % 144115188075855872 * part ≤ units % cell
  pub high : units % cell ≤ units / part % 144115188075855872 * part + part

-- the rest of U over k d is the rest of U / d over k, to within d
over : (U d k j n z h r : ℕ) → j * (d * k) + z ≡ U → n * d + r ≡ U → j * k + h ≡ n → r < d → (h * d ≤ z) × (z ≤ h * d + d)
over U d k j n z h r e f g i =
    let a : (j * k + h) * d ≡ n * d = ap (λ (x : ℕ). x * d) g in
    let b = add-mul (j * k) h d in
    let c : j * k * d ≡ j * (d * k) = mul_assoc j k d ∙ ap (λ (x : ℕ). j * x) (mul_comm k d) in
    (omega arith, omega arith)

pub placed : (u : Float) → InUnit u → T (fits binary64 u) → Placed u
unfolding place_of
placed nan h t = absurd h
placed (inf s) h t = absurd h
placed (fin true m e) h t = absurd h
placed (fin false m e) h t =
    let w = unit m e h t in
    let u = m * 2 ^ w.i in
    let x = mul binary64 (fin false m e) (of_bits binary64 0x43d0000000000000) in
    let p : m * up e * 4611686018427387904 * part ≡ u * down e =
    mul_assoc (m * up e) 4611686018427387904 part ∙ (ap (λ (z : ℕ). m * up e * z) (mul_comm 4611686018427387904 part ∙ sym one-part) ∙ w.is) in
    let q : m * up e * 4611686018427387904 / down e ≡ u / part = div_same (m * up e * 4611686018427387904) (down e) u part (down_pos e) part_pos p in
    let l : u / cell < 33 = (div-lt_iff_lt-mul cell_pos).1 (lt_of_le_of_lt w.low (omega (arith, tick_pos))) in
    let n : to_unsigned 64 x ≡ u / part = whole_part x (m * up e * 2 ^ 62) (down e) (down_pos e) (scaled m e h t) (room (m * up e) (down e) h (down_pos e)) ∙ q in
    let r : u / part / 144115188075855872 ≡ u / cell = div-div-eq-div-mul u part 144115188075855872 ∙ ap (λ (z : ℕ). u / z) (sym cell-part) in
    let o =
    over u part 144115188075855872 (u / cell) (u / part) (u % cell) (u / part % 144115188075855872) (u % part)
    (ap (λ (z : ℕ). u / cell * z + u % cell) (sym cell-part) ∙ div-add-mod' u cell) (div-add-mod' u part)
    (ap (λ (z : ℕ). z * 144115188075855872 + u / part % 144115188075855872) (sym r) ∙ div-add-mod' (u / part) 144115188075855872) (mod-lt u part_pos) in
    record { units = u; value = (refl, w.is); most = w.low; place = n; row = r; last = omega arith; low = o.0; high = o.1 }
  where
    room : (a d : ℕ) → a ≤ d → 0 < d → a * 2 ^ 62 < 2 ^ 64 * d
    room a d h i = omega arith

-- ---- the same from u's bit pattern: its digits, with ten zeros behind them, less those below the point
-- t * 2 ^ y units, where y and s make 1022, are t * 1024 / 2 ^ s parts
shifted : (U t y s : ℕ) → U ≡ t * 2 ^ y → y + s ≡ 1022 → U / part ≡ t * 1024 / 2 ^ s
unfolding part
shifted U t y s e h =
    div_same U (2 ^ 1012) (t * 1024) (2 ^ s) (pow_pos 1012) (pow_pos s)
    (ap (λ (u : ℕ). u * 2 ^ s) e
    ∙ (mul_assoc t (2 ^ y) (2 ^ s)
    ∙ (ap (λ (p : ℕ). t * p) (sym (pow-add 2 y s) ∙ (ap (λ (z : ℕ). 2 ^ z) h ∙ pow-add 2 10 1012)) ∙ sym (mul_assoc t (2 ^ 10) (2 ^ 1012)))))

none_below : (U : ℕ) → U < part → U / part ≡ 0
none_below U h = let i : U / part < 1 = (div-lt_iff_lt-mul part_pos).1 (omega arith) in omega arith

none_left : (t s : ℕ) → t < 2 ^ 53 → s ≡ 63 → t * 1024 / 2 ^ s ≡ 0
none_left t s h e = rw e (omega arith)

small_units : (U t y : ℕ) → U ≡ t * 2 ^ y → t < 2 ^ 53 → y ≤ 959 → U < part
unfolding part
small_units U t y e h i =
    lt_of_le_of_lt (le_of_eq e) (lt_of_lt_of_le (mul-lt-mul_of_pos_right h (pow_pos y)) (subst (λ (z : ℕ). z ≤ 2 ^ 1012) (pow-add 2 53 y) (pow_mono (within y i))))
  where
    within : (y : ℕ) → y ≤ 959 → 53 + y ≤ 1012
    within y i = omega arith

pub unit_real : (u : Float) → InUnit u → T (not (is_nan u))
unfolding is_nan
unit_real nan h = absurd h
unit_real (inf s) h = absurd h
unit_real (fin s m e) h = tt

unit_fewer : (U : ℕ) → U ≤ one → U < 2 ^ (53 + 1022)
unit_fewer U h = lt_of_le_of_lt (le_trans h (le_of_eq one_is)) (lit< tt)

-- the exponent's field of a number up to 1
pub unit-field : (u : Float) → InUnit u → T (fits binary64 u) → field (to_bits binary64 u) < 1024
unit-field u h f =
    let w = placed u h f in
    (div-lt_iff_lt-mul (lit< tt)).1
    (field_below u w.units 1022 (subst (λ (z : ℕ). HasValue u false w.units z) one_is w.value) (unit_fewer w.units w.most))

pub place_by_bits : (u : Float) → InUnit u → T (fits binary64 u) →
    place_of u ≡ digits_of (to_bits binary64 u) * 1024 / 2 ^ min (1023 - field (to_bits binary64 u)) 63
place_by_bits u h f = w.place ∙ ⊎_elim ordinary low (le-or-lt 1 (field b))
  where
    w : Placed u
    w = placed u h f

    b : ℕ
    b = to_bits binary64 u

    U : ℕ
    U = w.units

    v : Units u false U
    v = subst (λ (z : ℕ). HasValue u false U z) one_is w.value

    fewer : U < 2 ^ (53 + 1022)
    fewer = unit_fewer U w.most

    field-small : field b < 1024
    field-small = unit-field u h f

    -- all digits fall below the point
    gone : min (1023 - field b) 63 ≡ 63 → U < part → U / part ≡ digits_of b * 1024 / 2 ^ min (1023 - field b) 63
    gone e i = none_below U i ∙ sym (none_left (digits_of b) (min (1023 - field b) 63) (digits_most b) e)

    low : field b < 1 → U / part ≡ digits_of b * 1024 / 2 ^ min (1023 - field b) 63
    low l =
        let z : b < 2 ^ 52 = under b l in
        gone (min-eq_right (far (field b) l)) (small_units U b 0 (units_of_low_bits u U f v z ∙ sym (mul-one b)) (omega arith) (omega arith))
      where
        under : (b : ℕ) → field b < 1 → b < 2 ^ 52
        under b l = omega arith

        far : (k : ℕ) → k < 1 → 63 ≤ 1023 - k
        far k l = omega arith

    ordinary : 1 ≤ field b → U / part ≡ digits_of b * 1024 / 2 ^ min (1023 - field b) 63
    ordinary l = ⊎_elim kept lost (le-or-lt (1023 - field b) 63)
      where
        is : U ≡ digits_of b * 2 ^ (field b - 1)
        is = units_of_bits u U 1022 f v fewer (lit< tt) l

        kept : 1023 - field b ≤ 63 → U / part ≡ digits_of b * 1024 / 2 ^ min (1023 - field b) 63
        kept i = rw (min-eq_left i) (shifted U (digits_of b) (field b - 1) (1023 - field b) is (together (field b) l field-small))
          where
            together : (k : ℕ) → 1 ≤ k → k < 1024 → k - 1 + (1023 - k) ≡ 1022
            together k l m = omega arith

        lost : 63 < 1023 - field b → U / part ≡ digits_of b * 1024 / 2 ^ min (1023 - field b) 63
        lost i = gone (min-eq_right (le_of_lt i)) (small_units U (digits_of b) (field b - 1) is (digits_most b) (beyond (field b) i))
          where
            beyond : (k : ℕ) → 63 < 1023 - k → k - 1 ≤ 959
            beyond k i = omega arith
