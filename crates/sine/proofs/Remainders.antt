-- The remainder r = x % TAU of a finite x as a fraction, and n, its size at 2 ^ 61, cut.
use Rattle.std.proofs.Common.{◌≡◌, ℕ, ◌+◌, ◌*◌, ◌/◌, ◌%◌, ◌^◌, ◌<◌, ◌≤◌, Bool, true, false, ◌&&◌, ◌||◌, T, eqb, ltb, ℤ, pos, negsuc, sym, refl, ap, ◌∙◌, subst, le_of_eq, le_of_lt, mod-lt, mul_comm, div-lt_iff_lt-mul, mul-pos, div-mul-le_self, arith, lit<, lit≤, eqb→eq, ltb→lt, eq-eqb}
use mathlib.Core.Bool.{false≢true}
use native.Mathlib.Nat.{lt-mul-div-succ}
use lib.Count.{count_trailing_zeros}
use lib.Ieee.{Float, nan, inf, fin, binary64, up, down, round, units, odd, size, span, climb, of_bits, of_fields, neg, mul, rem, lt, eq, le, to_unsigned, fits}
use lib.Ieee.Fits.{down_pos, round-fits}
use lib.Ieee.Order.{round_mono}
use Rattle.laws.specs.Size.{abs}
use Rattle.laws.proofs.SignBit.{signed, round-signed}
use Rattle.laws.proofs.Held.{fits_num, fits_den}
use Rattle.laws.proofs.Truncation.{MayCut}
use Rattle.fixed.specs.Size.{size_of}
use Rattle.fixed.proofs.Sizes.{size_positive}
use Rattle.fixed.proofs.Scaled.{size_may_cut, size_whole}
use Rattle.sine.specs.Angle.{tau}
use Rattle.sine.specs.Angle as angle

-- r has the sign s and is finite; its size is at most TAU, which is 884279719003555 / 2 ^ 47
pub record Remainder (s : Bool) (r : Float) : Type 0 where
  pub m : ℕ
  pub e : ℤ
  pub is : r ≡ fin s m e
  pub small : m * up e * 2 ^ 47 ≤ 884279719003555 * down e
  pub fit : T (fits binary64 (fin s m e))

or-le : (x y : ℕ) (b : Bool) → T (ltb x y || (eqb x y && b)) → x ≤ y
or-le x y b t = go (ltb x y) (eqb x y) refl refl t
  where
    go : (p q : Bool) → ltb x y ≡ p → eqb x y ≡ q → T (p || (q && b)) → x ≤ y
    go true q i j t = le_of_lt (ltb→lt x y (subst T (sym i) tt))
    go false true i j t = le_of_eq (eqb→eq x y (subst T (sym j) tt))
    go false false i j t = absurd t

bounded : (s : Bool) (r : Float) → T (le r (fin false 884279719003555 (negsuc 46))) → signed false r ≡ r → T (fits binary64 (signed s r)) → Remainder s (signed s r)
unfolding le lt eq signed
bounded s nan t i f = absurd t
bounded s (inf false) t i f = absurd t
bounded s (inf true) t i f = let z : false ≡ true = cc in absurd (false≢true z)
bounded s (fin true m e) t i f = let z : false ≡ true = cc in absurd (false≢true z)
bounded s (fin false m e) t i f =
    record { m = m; e = e; is = refl; small = or-le (m * up e * 2 ^ 47) (884279719003555 * down e) true t; fit = f }

tau_is : round binary64 false 884279719003555 (2 ^ 47) ≡ fin false 884279719003555 (negsuc 46)
unfolding round units odd size span climb count_trailing_zeros
tau_is = refl

pub remainder : (s : Bool) (m : ℕ) (e : ℤ) → Remainder s (rem binary64 (fin s m e) tau)
unfolding rem tau of_bits of_fields odd count_trailing_zeros
remainder s m e =
    let a = m * up e * 2 ^ 47 % (884279719003555 * down e) in
    let c = down e * 2 ^ 47 in
    let c_pos : 0 < c = mul-pos (down_pos e) (lit< tt) in
    let a_lt : a < 884279719003555 * down e = mod-lt (m * up e * 2 ^ 47) (mul-pos (lit< tt) (down_pos e)) in
    let a-le : a * 2 ^ 47 ≤ 884279719003555 * c = omega (arith, a_lt, mul_comm (down e) (2 ^ 47)) in
    let l : T (le (round binary64 false a c) (fin false 884279719003555 (negsuc 46))) =
    rw tau_is at (round_mono binary64 a c 884279719003555 (2 ^ 47) c_pos (lit< tt) a-le) in
    let f : T (fits binary64 (signed s (round binary64 false a c))) = rw (round-signed binary64 s a c) at (round-fits binary64 s a c) in
    rw (round-signed binary64 s a c) (bounded s (round binary64 false a c) l (sym (round-signed binary64 false a c)) f)

-- ---- n of a remainder m * 2 ^ e with the sign s
module _ (s : Bool) (m : ℕ) (e : ℤ) (fit : T (fits binary64 (fin s m e))) (small : m * up e * 2 ^ 47 ≤ 884279719003555 * down e) where
  room : m * up e * 2 ^ 61 < 2 ^ 64 * down e
  room = omega (arith, small, down_pos e)

  pub units_floor : angle.units (fin s m e) ≡ m * up e * 2 ^ 61 / down e
  unfolding angle.units of_bits of_fields odd count_trailing_zeros
  units_floor = size_whole 61 m e (lit≤ tt) (fits_num binary64 s m e fit) (fits_den binary64 s m e fit) (omega (arith, small)) room s

  pub units_may_cut : MayCut (mul binary64 (size_of (fin s m e)) (fin false 1 (pos 61)))
  units_may_cut = size_may_cut 61 m e (lit≤ tt) (fits_num binary64 s m e fit) (fits_den binary64 s m e fit) (omega (arith, small)) room s

  pub units-near : (angle.units (fin s m e) * down e ≤ 2 ^ 61 * (m * up e)) × (2 ^ 61 * (m * up e) ≤ (angle.units (fin s m e) + 1) * down e)
  units-near =
      let a = m * up e * 2 ^ 61 in
      let d = down e in
      rw units_floor (omega (arith, div-mul-le_self a d), omega (arith, lt-mul-div-succ a (down_pos e), mul_comm d (a / d + 1)))

  pub units_small : angle.units (fin s m e) < 203 * 2 ^ 56
  units_small = rw units_floor ((div-lt_iff_lt-mul (down_pos e)).1 (omega (arith, small, down_pos e)))

pub units_nan : angle.units nan ≡ 0
unfolding angle.units size_of lt neg mul to_unsigned of_bits of_fields odd count_trailing_zeros
units_nan = refl

-- n is below 101.5 / 16, so the node is in the table
pub units_lt : (x : Float) → angle.units (rem binary64 x tau) < 203 * 2 ^ 56
unfolding rem
units_lt nan = rw units_nan (lit< tt)
units_lt (inf s) = rw units_nan (lit< tt)
units_lt (fin s m e) =
    let a = remainder s m e in
    subst (λ (r : Float). angle.units r < 203 * 2 ^ 56) (sym a.is) (units_small s a.m a.e a.fit a.small)

-- a finite float equals itself
pub eq_self : (s : Bool) (m : ℕ) (e : ℤ) → eq (fin s m e) (fin s m e) ≡ true
unfolding eq
eq_self true m e = rw (eq-eqb (m * up e * down e) (m * up e * down e) refl) refl
eq_self false m e = rw (eq-eqb (m * up e * down e) (m * up e * down e) refl) refl

-- ---- the sign
pub rem_signed : (s : Bool) (m : ℕ) (e : ℤ) → rem binary64 (fin s m e) tau ≡ signed s (rem binary64 (fin false m e) tau)
unfolding rem tau of_bits of_fields odd count_trailing_zeros
rem_signed s m e = round-signed binary64 s (m * up e * 2 ^ 47 % (884279719003555 * down e)) (down e * 2 ^ 47)

pub units-signed : (s : Bool) (m : ℕ) (e : ℤ) → T (fits binary64 (fin false m e)) → m * up e * 2 ^ 47 ≤ 884279719003555 * down e →
    angle.units (fin s m e) ≡ angle.units (fin false m e)
unfolding fits
units-signed s m e fit small = units_floor s m e fit small ∙ sym (units_floor false m e fit small)

-- ---- without the sign
pub size_abs : (x : Float) → size_of (abs x) ≡ abs x
unfolding abs size_of lt of_bits of_fields odd count_trailing_zeros
size_abs nan = refl
size_abs (inf s) = refl
size_abs (fin s m e) = size_positive m e

pub abs-fits : (x : Float) → T (fits binary64 x) → T (fits binary64 (abs x))
unfolding abs fits
abs-fits nan f = f
abs-fits (inf s) f = f
abs-fits (fin s m e) f = f

pub units-abs : (x : Float) → angle.units (rem binary64 x tau) ≡ angle.units (rem binary64 (abs x) tau)
unfolding rem abs signed
units-abs nan = refl
units-abs (inf s) = refl
units-abs (fin s m e) =
    let a = remainder false m e in
    ap angle.units (rem_signed s m e ∙ ap (signed s) a.is)
    ∙ units-signed s a.m a.e a.fit a.small
    ∙ ap angle.units (sym a.is)
