-- A narrowed angle lies in its own cell, whatever the values there; its parameter on an arc that starts at 0 lies between 0 and it.
use mathlib.Core.Path.{◌≡◌, refl}
use mathlib.Core.Bool.{Bool, true, false, cond}
use Prim.Native.Nat.{ℕ, zero as nought, suc, ◌+◌, ◌*◌, ◌%◌, ◌^◌, ◌≤◌}
use lib.IntN.{ℤ}
use native.Mathlib.Nat.{mul-pos, mul-le-mul_right, mod-le}
use native.Mathlib.Omega.{arith}
use lib.Dec.{T, lit<}
use lib.Ieee.{Float, nan, inf, fin, binary64, up, down, sub, neg, rem, le, lt, fits, of_bits}
use lib.Ieee.Fits.{down_pos, add-fits}
use lib.Ieee.Scale.{finite}
use lib.Ieee.Positive.{den, den_pos}
use Rattle.laws.specs.Literal as literal
use Rattle.laws.specs.Literal.{zero_datum as zero, ten⁻⁷}
use Rattle.laws.specs.Rounded.{◌⊕◌, ◌⊖◌, ◌⊗◌}
use Rattle.laws.specs.Size.{abs, roomy}
use Rattle.laws.proofs.Constants.{zero_bits}
use Rattle.laws.proofs.Size.{abs_far_below}
use Rattle.laws.proofs.SignBit.{neg_finite}
use Rattle.laws.proofs.Fraction.{above, under, plus, less, le→cross}
use Rattle.laws.proofs.Order.{le_trans, le_lt_trans, le_refl, finite_number, between_finite, not-both}
use Rattle.laws.proofs.Value.{makes_own}
use Rattle.laws.proofs.Rounding.{Rounds, not_below_lem, not_above}
use Rattle.laws.proofs.Operations.{add_rounds}
use Rattle.laws.proofs.Monotone.{not_negative, add_mono, add_grows, add_shrinks, add-not-negative}
use Rattle.laws.proofs.Doubling.{roomy_between, roomy_finite}
use Rattle.laws.proofs.Middle.{middle_between, middle-fits}
use Rattle.scalar.specs.Angles.{tau}
use Rattle.arc.specs.Span.{norm_tau}
use Rattle.hunt_bracket.specs.declared.Stretch.{Stretch}
use Rattle.hunt_bracket.specs.Narrow.{middle_of, halved, narrowed, last}
use Rattle.hunt_bracket.specs.Fate.{near}

-- ---- halving stays between x and y

record Within (x y : Float) (s : Stretch) : Type 0 where
  pub fits_lo : T (fits binary64 s.lo)
  pub fits_hi : T (fits binary64 s.hi)
  pub from : T (le x s.lo)
  pub in_order : T (le s.lo s.hi)
  pub to : T (le s.hi y)

module _ (g : Float → Float) (x y : Float) (rx : T (roomy binary64 x)) (ry : T (roomy binary64 y)) where
  middle-within : (s : Stretch) → Within x y s → T (le s.lo (middle_of s)) × T (le (middle_of s) s.hi)
  middle-within s w =
      middle_between s.lo s.hi w.fits_lo w.fits_hi
      (roomy_between binary64 x s.lo y rx ry w.from (le_trans s.lo s.hi y w.in_order w.to))
      (roomy_between binary64 x s.hi y rx ry (le_trans x s.lo s.hi w.from w.in_order) w.to) w.in_order

  halved-within : (s : Stretch) → Within x y s → Within x y (halved g s)
  unfolding halved
  halved-within s w = go (le (s.g_lo ⊗ g (middle_of s)) (of_bits binary64 0))
    where
      between : T (le s.lo (middle_of s)) × T (le (middle_of s) s.hi)
      between = middle-within s w

      go : (c : Bool) → Within x y (cond c (record { lo = s.lo; hi = middle_of s; g_lo = s.g_lo }) (record { lo = middle_of s; hi = s.hi; g_lo = g (middle_of s) }))
      go true = record {
        fits_lo = w.fits_lo;
        fits_hi = middle-fits s.lo s.hi;
        from = w.from;
        in_order = between.0;
        to = le_trans (middle_of s) s.hi y between.1 w.to;
      }
      go false = record {
        fits_lo = middle-fits s.lo s.hi;
        fits_hi = w.fits_hi;
        from = le_trans x s.lo (middle_of s) w.from between.0;
        in_order = between.1;
        to = w.to;
      }

  narrowed-within : (s : Stretch) → Within x y s → (n : ℕ) → Within x y (narrowed g n s)
  unfolding narrowed
  narrowed-within s w nought = w
  narrowed-within s w (suc n) = halved-within (narrowed g n s) (narrowed-within s w n)

  -- the last angle: an f64 between x and y
  pub last_within : (s : Stretch) → s.lo ≡ x → s.hi ≡ y → T (fits binary64 x) → T (fits binary64 y) → T (le x y)
      → T (fits binary64 (last g s)) × T (le x (last g s)) × T (le (last g s) y)
  unfolding last
  last_within s p q fx fy o =
      let start : Within x y s = record {
        fits_lo = rw p fx;
        fits_hi = rw q fy;
        from = rw p (le_refl x (finite_number x (roomy_finite binary64 x rx)));
        in_order = rw (p, q) o;
        to = rw q (le_refl y (finite_number y (roomy_finite binary64 y ry)));
      } in
      let end = narrowed g 60 s in
      let w = narrowed-within s start 60 in
      let m = middle-within end w in
      (middle-fits end.lo end.hi, le_trans x end.lo (middle_of end) w.from m.0, le_trans (middle_of end) end.hi y m.1 w.to)

-- ---- the parameter of an angle that is not negative

rem_between : (v : Float) → T (finite v) → T (fits binary64 v) → T (le zero v) → T (le zero (rem binary64 v tau)) × T (le (rem binary64 v tau) v)
rem_between nan p f l = absurd p
rem_between (inf s) p f l = absurd p
rem_between (fin s m e) p f l =
    let a = m * up e * 2 ^ 47 % (884279719003555 * down e) in
    let c = down e * 2 ^ 47 in
    let c_pos = mul-pos (down_pos e) (lit< tt) in
    let r : Rounds binary64 (rem binary64 (fin s m e) tau) (above s a) (under s a) c = rounds s m e in
    let most = mod-le (m * up e * 2 ^ 47) (884279719003555 * down e) in
    let (low, high) = order s a (m * up e) (down e) most (mul-le-mul_right (down e) most) (not_negative (fin s m e) p l) in
    (not_below_lem binary64 zero _ (above s a) (under s a) c (unfold fits in tt) tt c_pos r low, not_above binary64 (fin s m e) _ (above s a) (under s a) c f p c_pos r high)
  where
    rounds : (s : Bool) (m : ℕ) (e : ℤ)
        → Rounds binary64 (rem binary64 (fin s m e) tau) (above s (m * up e * 2 ^ 47 % (884279719003555 * down e))) (under s (m * up e * 2 ^ 47 % (884279719003555 * down e))) (down e * 2 ^ 47)
    rounds s m e = unfold rem of_bits in (record { sign = s; size = m * up e * 2 ^ 47 % (884279719003555 * down e); makes = makes_own s (m * up e * 2 ^ 47 % (884279719003555 * down e)); is = refl })

    order : (s : Bool) (a x d : ℕ) → a ≤ x * 2 ^ 47 → a * d ≤ x * 2 ^ 47 * d → under s x ≡ 0
        → (0 * (d * 2 ^ 47) + under s a * 1 ≤ above s a * 1 + 0 * (d * 2 ^ 47)) × (above s a * d + under s x * (d * 2 ^ 47) ≤ above s x * (d * 2 ^ 47) + under s a * d)
    order false a x d h k z = (omega arith, omega arith)
    order true a x d h k z = (omega arith, rw z (omega arith))

not-less : (x y : Float) → T (le y x) → lt x y ≡ false
not-less x y h = go (lt x y) refl
  where
    go : (b : Bool) → lt x y ≡ b → lt x y ≡ false
    go true e = absurd (not-both x y (rw e tt) h)
    go false e = e

module _ (v : Float) (p : T (finite v)) (f : T (fits binary64 v)) (l : T (le zero v)) where
  less_zero : T (le v (v ⊖ zero)) × T (le (v ⊖ zero) v)
  unfolding sub neg
  less_zero = (add_grows binary64 v (neg zero) f p tt (unfold le in tt), add_shrinks binary64 v (neg zero) f p tt (unfold le in tt))

  turn_between : T (le zero (norm_tau v)) × T (le (norm_tau v) v)
  unfolding norm_tau
  turn_between =
      let between = rem_between v p f l in
      rw (zero_bits, not-less (rem binary64 v tau) zero between.0) between

  zero-plus : (r : Float) → T (le zero r) → T (le r v) → T (le zero (zero ⊕ r)) × T (le (zero ⊕ r) v)
  zero-plus r h k =
      let q = between_finite zero r v tt p h k in (
        add-not-negative binary64 zero r (unfold fits in tt) tt q (unfold le in tt) h,
        not_above binary64 v (zero ⊕ r) (plus zero * den r + plus r * den zero) (less zero * den r + less r * den zero) (den zero * den r) f p (mul-pos (den_pos zero) (den_pos r))
            (add_rounds binary64 zero r tt q) (omega (arith, le→cross r v q p k)),
      )

-- the parameter of t on an arc that starts at 0
abbrev pub turned : Float → Float
turned t = literal.zero ⊕ norm_tau (t ⊖ literal.zero)

pub turned_between : (t : Float) → T (finite t) → T (fits binary64 t) → T (le zero t) → T (le zero (turned t)) × T (le (turned t) t)
turned_between t p f l =
    let v = t ⊖ zero in
    let (up, down) = less_zero t p f l in
    let turn = turn_between v (between_finite t v t p p up down) (unfold sub in add-fits binary64 t (neg zero)) (le_trans zero t v l up) in
    rw zero_bits (zero-plus t p f l (norm_tau v) turn.0 (le_trans (norm_tau v) v t turn.1 down))

-- ---- what is not after x is not near t, where t is far after x
pub far_apart : (x t p : Float) → T (finite x) → T (finite t) → T (le zero p) → T (le p x) → T (le (x ⊖ t) (neg ten⁻⁷)) → near p t ≡ false
unfolding near sub
far_apart x t p fx ft l h far =
    let q = between_finite zero p x tt fx l h in
    let c = neg_finite t ft in
    let d = le_trans (p ⊖ t) (x ⊖ t) (neg ten⁻⁷) (add_mono binary64 p x (neg t) (neg t) q fx c c h (le_refl (neg t) (finite_number (neg t) c))) far in
    not-less (abs (p ⊖ t)) ten⁻⁷ (abs_far_below (p ⊖ t) ten⁻⁷ (le_lt_trans (p ⊖ t) (neg ten⁻⁷) zero d (unfold lt neg of_bits in tt)) d)
