-- The digits and the scale of the number of a pattern: of a normal one they are its fields, those of a subnormal one move up by z places.
use Rattle.std.proofs.Math.Nat.{mod-eq_of_lt}
use mathlib.Core.Path.{◌≡◌, sym, ap, ◌∙◌, subst}
use mathlib.Core.Bool.{false}
use Prim.Native.Nat.{ℕ, suc, ◌+◌, ◌-◌, ◌*◌, ◌/◌, ◌%◌, ◌^◌, ◌≤◌, ◌<◌}
use native.Mathlib.Nat.{mul_assoc, mul-le-mul_right, lt_of_lt_of_le, lt_of_le_of_lt, lt_of_not-le}
use native.Mathlib.Decide.{dec_le}
use native.Mathlib.Omega.{arith}
use lib.Pow.{pow-add, shl_lt}
use lib.Count.{count_leading_zeros, leading_top}
use lib.Ieee.{binary64, of_bits}
use lib.Ieee.Exact.{HasValue}
use Rattle.root.specs.Steps.{Spread}
use Rattle.laws.proofs.Powers.{pow_lt_back}
use Rattle.laws.proofs.Value.{value-scaled}
use Rattle.laws.proofs.Pattern.{units_low, units-high}

-- t * 2 ^ x with y zeros more
joined : (t x y z : ℕ) → x + y ≡ z → t * 2 ^ x * 2 ^ y ≡ t * 2 ^ z
joined t x y z e = mul_assoc t (2 ^ x) (2 ^ y) ∙ ap (λ (p : ℕ). t * p) (sym (pow-add 2 x y) ∙ ap (λ (p : ℕ). 2 ^ p) e)

pub normal : (b : ℕ) → 2 ^ 52 ≤ b → b < 0x7ff0_0000_0000_0000 → Spread b (b % 2 ^ 52 + 2 ^ 52) (b / 2 ^ 52 + 1073) b
normal b lo hi = record {
  number =
      subst (λ (a : ℕ). HasValue (of_bits binary64 b) false a (2 ^ 2148)) (joined t x 1074 (b / 2 ^ 52 + 1073) (omega arith))
      (value-scaled (of_bits binary64 b) false (t * 2 ^ x) (2 ^ 1074) (2 ^ 1074) (units-high b x t (omega arith) (omega arith) (omega arith) (omega arith)));
  low = omega arith;
  high = omega arith;
  least = omega arith;
  most = omega arith;
  finite = hi;
}
  where
    t : ℕ
    t = b % 2 ^ 52 + 2 ^ 52

    x : ℕ
    x = b / 2 ^ 52 - 1

-- ---- a subnormal pattern b, whose leading digit stands at j: z zeros below 2 ^ 53 are above it

pub record Zeros (b z : ℕ) : Type 0 where
  pub some : 1 ≤ z
  pub most : z ≤ 52
  pub low : 2 ^ 52 ≤ b * 2 ^ z
  pub high : b * 2 ^ z < 2 ^ 53

-- as the machine counts them, at 64 bits
pub eleven : (b : ℕ) → 0 < b → b < 2 ^ 52 → (11 ≤ count_leading_zeros 64 b) × Zeros b (count_leading_zeros 64 b - 11)
eleven b p h =
    let l = leading_top 64 b p (lt_of_lt_of_le h (omega arith)) in
    let j = l.0 in
    let j-lt : j < 52 = pow_lt_back j 52 (lt_of_le_of_lt l.2 h) in
    let z = count_leading_zeros 64 b - 11 in
    let e : j + z ≡ 52 = place (count_leading_zeros 64 b) j j-lt l.1 in (
      above (count_leading_zeros 64 b) j j-lt l.1,
      record {
        some = omega arith;
        most = omega arith;
        low = subst (λ (x : ℕ). 2 ^ x ≤ b * 2 ^ z) e (rw (pow-add 2 j z) (mul-le-mul_right (2 ^ z) l.2));
        high = subst (λ (x : ℕ). b * 2 ^ z < 2 ^ x) (next j z e) (shl_lt (suc j) z l.3);
      },
    )
  where
    above : (n j : ℕ) → j < 52 → n + suc j ≡ 64 → 11 ≤ n
    above n j h e = omega arith

    place : (n j : ℕ) → j < 52 → n + suc j ≡ 64 → j + (n - 11) ≡ 52
    place n j h e = omega arith

    next : (j z : ℕ) → j + z ≡ 52 → suc j + z ≡ 53
    next j z e = omega arith

pub subnormal : (b z like : ℕ) → 0 < b → b < 2 ^ 52 → Zeros b z → like < 0x7ff0_0000_0000_0000 → Spread b (b * 2 ^ z % 2 ^ 64) (1074 - z) like
subnormal b z like p h o l = subst (λ (t : ℕ). Spread b t (1074 - z) like) (sym (mod-eq_of_lt (omega (arith, o.high)))) (record {
  number =
      subst (λ (a : ℕ). HasValue (of_bits binary64 b) false a (2 ^ 2148)) (sym (joined b z (1074 - z) 1074 (back z o.most)))
      (value-scaled (of_bits binary64 b) false b (2 ^ 1074) (2 ^ 1074) (units_low b h));
  low = o.low;
  high = o.high;
  least = omega arith;
  most = omega arith;
  finite = l;
})
  where
    back : (z : ℕ) → z ≤ 52 → z + (1074 - z) ≡ 1074
    back z h = omega arith

-- ---- either

pub spread : (b : ℕ) → 0 < b → b < 0x7ff0_0000_0000_0000 → (t : ℕ) × (y : ℕ) × Spread b t y b
spread b p h = go (dec_le (2 ^ 52) b)
  where
    go : Dec (2 ^ 52 ≤ b) → (t : ℕ) × (y : ℕ) × Spread b t y b
    go (yes g) = (b % 2 ^ 52 + 2 ^ 52, b / 2 ^ 52 + 1073, normal b g h)
    go (no g) =
        let l : b < 2 ^ 52 = lt_of_not-le g in
        let z = count_leading_zeros 64 b - 11 in
        (b * 2 ^ z % 2 ^ 64, 1074 - z, subnormal b z b p l (eleven b p l).1 h)
