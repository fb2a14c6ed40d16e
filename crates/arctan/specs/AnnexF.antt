-- C's Annex F, F.10.1.4, row by row, and the NaNs: what a function atan2 does with zeros and infinities.
-- 01, 'Roots and angles': "Zeros and infinities as Annex F, a quarter of PI being exact and three quarters being 3 times that, rounded once."
-- proofs/AnnexF.antt proves it of the rule.
use Rattle.std.specs.Prelude.{◌≡◌, ℕ, suc, Bool, true, false, cond, ℤ, pos, negsuc, Float}
use Rattle.std.specs.Float.{nan, inf, fin, binary64}
use Rattle.std.specs.Float.Ieee.{neg, mul, div, lt}
use Rattle.scalar.specs.Angles.{tau, pi, frac_pi2}
use Rattle.laws.specs.Literal.{zero, two, three, four}
use Rattle.arctan.specs.Rule.{quarter_pi, three_quarters_pi}

-- ±0, and ±x: - where s
abbrev pub zero_of : Bool → Float
zero_of s = fin s 0 (pos 0)

abbrev pub signed : Bool → Float → Float
signed s x = cond s (neg x) x

-- `fin s m e` is every finite number, ±m * 2 ^ e; it is not 0 where m is `suc m`
pub record AnnexF (atan2 : Float → Float → Float) : Type 0 where
  -- atan2(±0, -0) is ±PI, atan2(±0, +0) is ±0
  pub zero_minus_zero : (s : Bool) → atan2 (zero_of s) (zero_of true) ≡ signed s pi
  pub zero_plus_zero : (s : Bool) → atan2 (zero_of s) (zero_of false) ≡ zero_of s
  -- atan2(±0, x) is ±PI for x < 0, and ±0 for x > 0
  pub zero_left : (s : Bool) (x : Float) → lt x zero ≡ true → atan2 (zero_of s) x ≡ signed s pi
  pub zero_right : (s : Bool) (x : Float) → lt zero x ≡ true → atan2 (zero_of s) x ≡ zero_of s
  -- atan2(y, ±0) is -FRAC_PI_2 for y < 0, and FRAC_PI_2 for y > 0
  pub below_zero : (t : Bool) (y : Float) → lt y zero ≡ true → atan2 y (zero_of t) ≡ neg frac_pi2
  pub above_zero : (t : Bool) (y : Float) → lt zero y ≡ true → atan2 y (zero_of t) ≡ frac_pi2
  -- atan2(±y, -infinity) is ±PI, and atan2(±y, +infinity) is ±0, for finite y > 0
  pub far_left : (s : Bool) (m : ℕ) (e : ℤ) → atan2 (fin s (suc m) e) (inf true) ≡ signed s pi
  pub far_right : (s : Bool) (m : ℕ) (e : ℤ) → atan2 (fin s (suc m) e) (inf false) ≡ zero_of s
  -- atan2(±infinity, x) is ±FRAC_PI_2 for finite x
  pub far_up : (s t : Bool) (n : ℕ) (d : ℤ) → atan2 (inf s) (fin t n d) ≡ signed s frac_pi2
  -- atan2(±infinity, -infinity) is ± three quarters of PI, and atan2(±infinity, +infinity) ± a quarter
  pub corner_left : (s : Bool) → atan2 (inf s) (inf true) ≡ signed s three_quarters_pi
  pub corner_right : (s : Bool) → atan2 (inf s) (inf false) ≡ signed s quarter_pi
  -- "the arctangent with a NaN" is "the NaN above"
  pub nan_y : (x : Float) → atan2 nan x ≡ nan
  pub nan_x : (y : Float) → atan2 y nan ≡ nan

-- The constants: PI and FRAC_PI_2 are TAU's half and quarter; a quarter of PI has the digits of PI, two places lower, so it is exact; three quarters are 3 times it, rounded once.
pub record Constants : Type 0 where
  pub half : pi ≡ div binary64 tau two
  pub quarter : frac_pi2 ≡ div binary64 tau four
  pub digits : pi ≡ fin false 884279719003555 (negsuc 47)
  pub exact : quarter_pi ≡ fin false 884279719003555 (negsuc 49)
  pub thrice : three_quarters_pi ≡ mul binary64 three quarter_pi
