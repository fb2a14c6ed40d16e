-- A bracket, once narrowed, lies in its own cell, in the order of the span, and its ends still have opposite signs or an end at zero.
use mathlib.Core.Path.{◌≡◌, refl, sym, ◌∙◌, subst}
use mathlib.Core.Bool.{Bool, true, false, not, ◌||◌, cond, true≢false}
use Prim.Native.Nat.{ℕ, zero as nought, suc, ◌<◌}
use native.Mathlib.Omega.{arith}
use lib.Dec.{T}
use lib.Ieee.{Float, binary64, mul, le, fits, of_bits}
use lib.Ieee.Scale.{finite}
use Rattle.laws.specs.Size.{roomy}
use Rattle.laws.specs.Middle.{middle}
use Rattle.laws.specs.Sign.{Sign, negative, none, positive, is_negative, is_none, is_positive, sign, times}
use Rattle.laws.specs.Tame.{tame}
use Rattle.laws.proofs.Order.{le_trans, le_refl, finite_number}
use Rattle.laws.proofs.Doubling.{roomy_between, roomy_finite}
use Rattle.laws.proofs.Middle.{middle_between, middle_between_turned, middle-fits}
use Rattle.hunt_bracket.specs.declared.Stretch.{Stretch}
use Rattle.hunt_bracket.specs.Narrow.{middle_of, halved, narrowed}
use Rattle.hunt_refine.specs.Promise.{along, straddles, Kept}
use Rattle.hunt_refine.proofs.Three.{straddles-sign, product_sign}

-- what a halving keeps: the promise, that the ends are f64s, and what is known of the values there
pub record Held (g : Float → Float) (d : Bool) (a b : Float) (t : Stretch) : Type 0 where
  pub fits_lo : T (fits binary64 t.lo)
  pub fits_hi : T (fits binary64 t.hi)
  pub from_start : T (along d a t.lo)
  pub in_order : T (along d t.lo t.hi)
  pub to_end : T (along d t.hi b)
  pub value : t.g_lo ≡ g t.lo
  pub tame_lo : T (tame (g t.lo))
  pub tame_hi : T (tame (g t.hi))
  pub ends : T (straddles (g t.lo) (g t.hi))

abbrev opened : (Float → Float) → Float → Float → Stretch
opened g a b = record { lo = a; hi = b; g_lo = g a }

-- ---- the order along the span
pub along_refl : (d : Bool) (x : Float) → T (finite x) → T (along d x x)
along_refl true x p = le_refl x (finite_number x p)
along_refl false x p = le_refl x (finite_number x p)

pub along_trans : (d : Bool) (x y z : Float) → T (along d x y) → T (along d y z) → T (along d x z)
along_trans true x y z h k = le_trans x y z h k
along_trans false x y z h k = le_trans z y x k h

along-roomy : (d : Bool) (x y z : Float) → T (roomy binary64 x) → T (roomy binary64 z) → T (along d x y) → T (along d y z) → T (roomy binary64 y)
along-roomy true x y z p q h k = roomy_between binary64 x y z p q h k
along-roomy false x y z p q h k = roomy_between binary64 z y x q p k h

along-middle : (d : Bool) (x y : Float) → T (fits binary64 x) → T (fits binary64 y) → T (roomy binary64 x) →
    T (roomy binary64 y) → T (along d x y) → T (along d x (middle x y)) × T (along d (middle x y) y)
along-middle true x y f g p q h = middle_between x y f g p q h
along-middle false x y f g p q h = let b = middle_between_turned x y f g p q h in (b.1, b.0)

-- ---- signs: which half is kept
first-half : (s t : Sign) → T (not (is_positive (times s t))) → T ((is_none s || is_none t) || is_negative (times s t))
first-half none t h = tt
first-half negative negative h = h
first-half negative none h = tt
first-half negative positive h = tt
first-half positive negative h = tt
first-half positive none h = tt
first-half positive positive h = h

second_half : (s t u : Sign) → T (is_positive (times s t)) → T ((is_none s || is_none u) || is_negative (times s u)) → T ((is_none t || is_none u) || is_negative (times t u))
second_half none t u h k = absurd h
second_half negative negative u h k = k
second_half negative none u h k = tt
second_half negative positive u h k = absurd h
second_half positive negative u h k = absurd h
second_half positive none u h k = tt
second_half positive positive u h k = k

of-not : (x : Bool) → not x ≡ false → T x
of-not true e = tt
of-not false e = absurd (true≢false e)

-- ---- a stretch kept within the cell from a to b
module _ (g : Float → Float) (d : Bool) (a b : Float) (ra : T (roomy binary64 a)) (rb : T (roomy binary64 b)) where
  roomy_lo : (t : Stretch) → Held g d a b t → T (roomy binary64 t.lo)
  roomy_lo t k = along-roomy d a t.lo b ra rb k.from_start (along_trans d t.lo t.hi b k.in_order k.to_end)

  roomy_hi : (t : Stretch) → Held g d a b t → T (roomy binary64 t.hi)
  roomy_hi t k = along-roomy d a t.hi b ra rb (along_trans d a t.lo t.hi k.from_start k.in_order) k.to_end

  -- the middle of a kept stretch lies in it
  pub kept-middle : (t : Stretch) → Held g d a b t → T (along d t.lo (middle_of t)) × T (along d (middle_of t) t.hi)
  kept-middle t k = along-middle d t.lo t.hi k.fits_lo k.fits_hi (roomy_lo t k) (roomy_hi t k) k.in_order

  pub held_kept : (t : Stretch) → Held g d a b t → Kept g d a b t
  held_kept t k = record { from = k.from_start; in_order = k.in_order; to = k.to_end; ends = k.ends; point = kept-middle t k }

  pub halved-held : (t : Stretch) → T (tame (g (middle_of t))) → Held g d a b t → Held g d a b (halved g t)
  unfolding halved
  halved-held t tm k = go (le (mul binary64 t.g_lo gm) (of_bits binary64 0)) refl
    where
      m : Float
      m = middle_of t

      gm : Float
      gm = g m

      test : le (mul binary64 t.g_lo gm) (of_bits binary64 0) ≡ not (is_positive (times (sign (g t.lo)) (sign gm)))
      test = rw k.value (product_sign (g t.lo) gm k.tame_lo tm)

      go : (c : Bool) → le (mul binary64 t.g_lo gm) (of_bits binary64 0) ≡ c →
          Held g d a b (cond c (record { lo = t.lo; hi = middle_of t; g_lo = t.g_lo }) (record { lo = middle_of t; hi = t.hi; g_lo = g (middle_of t) }))
      go true e = record {
        fits_lo = k.fits_lo;
        fits_hi = middle-fits t.lo t.hi;
        from_start = k.from_start;
        in_order = (kept-middle t k).0;
        to_end = along_trans d m t.hi b (kept-middle t k).1 k.to_end;
        value = k.value;
        tame_lo = k.tame_lo;
        tame_hi = tm;
        ends = rw (straddles-sign (g t.lo) gm k.tame_lo tm) (first-half (sign (g t.lo)) (sign gm) (subst T (sym (sym test ∙ e)) tt));
      }
      go false e = record {
        fits_lo = middle-fits t.lo t.hi;
        fits_hi = k.fits_hi;
        from_start = along_trans d a t.lo m k.from_start (kept-middle t k).0;
        in_order = (kept-middle t k).1;
        to_end = k.to_end;
        value = refl;
        tame_lo = tm;
        tame_hi = k.tame_hi;
        ends =
            rw (straddles-sign gm (g t.hi) tm k.tame_hi)
            (second_half (sign (g t.lo)) (sign gm) (sign (g t.hi))
            (of-not (is_positive (times (sign (g t.lo)) (sign gm))) (sym test ∙ e)) (rw (straddles-sign (g t.lo) (g t.hi) k.tame_lo k.tame_hi) at k.ends));
      }

  -- n halvings, of each of which the value at the middle is tame
  narrowed-held : (t : Stretch) → Held g d a b t → (n : ℕ) → ((j : ℕ) → j < n → T (tame (g (middle_of (narrowed g j t))))) → Held g d a b (narrowed g n t)
  unfolding narrowed
  narrowed-held t k nought h = k
  narrowed-held t k (suc n) h = halved-held (narrowed g n t) (h n (omega arith)) (narrowed-held t k n (λ (j : ℕ) (l : j < n). h j (omega arith)))

-- ---- from a cell whose two values straddle zero, as those of a cell that brackets do
module _ (g : Float → Float) (d : Bool) (a b : Float) (fa : T (fits binary64 a)) (fb : T (fits binary64 b)) (ra : T (roomy binary64 a))
    (rb : T (roomy binary64 b)) (o : T (along d a b)) (ta : T (tame (g a))) (tb : T (tame (g b))) (c : T (straddles (g a) (g b))) where
  opened-held : Held g d a b (opened g a b)
  opened-held = record {
    fits_lo = fa;
    fits_hi = fb;
    from_start = along_refl d a (roomy_finite binary64 a ra);
    in_order = o;
    to_end = along_refl d b (roomy_finite binary64 b rb);
    value = refl;
    tame_lo = ta;
    tame_hi = tb;
    ends = c;
  }

  -- THE NARROWING: after n halvings the stretch is kept; 01's n is 60
  pub narrows : (n : ℕ) → ((j : ℕ) → j < n → T (tame (g (middle_of (narrowed g j (opened g a b)))))) → Held g d a b (narrowed g n (opened g a b))
  narrows n h = narrowed-held g d a b ra rb (opened g a b) opened-held n h
