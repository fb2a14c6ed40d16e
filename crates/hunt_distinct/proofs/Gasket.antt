-- P10 WITH THE HOLE FIRST lists two hits that differ in all four numbers, at every depth that a call takes. The two cells that bracket are narrowed by the checker itself.
use mathlib.Core.Path.{◌≡◌, refl, ◌∙◌}
use mathlib.Core.Bool.{Bool, true, false, not, ◌&&◌}
use mathlib.Core.List.{List, [], ◌∷◌, ◌++◌, append_assoc}
use Prim.Native.Nat.{ℕ, zero as nought, suc, ◌+◌, ◌-◌, ◌≤◌, ◌<◌}
use native.Mathlib.Omega.{arith}
use borrow.Author.Tests.{eq-eqb}
use lib.Dec.{T, eqb, lit<}
use lib.ListN.{length, get_or, length-append}
use lib.Seq.{get_or-append_seam}
use lib.Ieee.{binary64, of_bits, to_bits, add, sub, mul, div, rem, neg, lt, le, eq, of_int, to_unsigned, is_nan}
use lib.Ieee.Bits.{is_true}
use Rattle.laws.specs.Literal.{ten⁻⁷}
use Rattle.laws.specs.Rounded.{◌⊖◌}
use Rattle.laws.specs.Size.{abs}
use Rattle.fixed.specs.High.{high}
use Rattle.fixed.specs.Size.{size_of}
use Rattle.sine_table.specs.Table.{sines, cosines}
use Rattle.sine.specs.Angle as angle
use Rattle.sine.specs.Node.{node, under, apart, rest}
use Rattle.sine.specs.Short.{bend, lack, short_sine, short_versine}
use Rattle.sine.specs.Rule as rule
use Rattle.sine.specs.Rule.{sine, cosine, sine_units, cosine_units, rounded, ranged, places, floated, float}
use Rattle.arctan.specs.Rows.{row_at, row_from, plain, raised}
use Rattle.arctan.specs.Rule.{arctangent, ratio, edge_of, edge_size, angle_of, float_of, arc_of, units_at, place_of, series_at, upper_steps, last_step, fine_step, rough_step, rough}
use Rattle.arctan_table.specs.Table.{table, coefs_at}
use Rattle.arc.specs.Span.{norm_tau}
use Rattle.arc.specs.Frame.{arc_radii}
use Rattle.hits.specs.declared.CurveHit.{CurveHit}
use Rattle.hunt_bracket.specs.Frame.{frame, value, point, unit, theta}
use Rattle.hunt_bracket.specs.Narrow.{last, halved, narrowed}
use Rattle.hunt.specs.Cells.{cells, span, sample, bracket, closing_cell, brackets, cell}
use Rattle.hunt.specs.Hunt.{early, hunted}
use Rattle.hunt.proofs.Hunts.{hunted_on}
use Rattle.hunt_distinct.specs.Gasket.{hole, flange}
use Rattle.hunt_distinct.specs.Distinct.{HitNumber, ta, tb, x, y, of, nowhere, Distinct}
use Rattle.hunt_distinct.proofs.Order.{hit_on, narrowest, at, cell_of, hits, Begins, later, bracket_hits}

-- ---- a hit keeps its place

record Placed (h : CurveHit) (hs : List CurveHit) : Type 0 where
  pub place : ℕ
  pub inside : place < length hs
  pub is : get_or hs place nowhere ≡ h

placed : (before : List CurveHit) (h : CurveHit) (hs : List CurveHit) → Begins (before ++ h ∷ []) hs → Placed h hs
placed before h hs b =
    let split : hs ≡ before ++ h ∷ b.rest = b.is ∙ append_assoc before (h ∷ []) b.rest in
    record {
      place = length before;
      inside = rw (split, length-append before (h ∷ b.rest)) (omega arith);
      is = rw split (get_or-append_seam before h b.rest nowhere);
    }

-- ---- the test of two cells

both_of : (p q : Bool) → T (p && q) → T p × T q
both_of true q t = (tt, t)
both_of false q t = absurd t

unlike : HitNumber → CurveHit → CurveHit → Bool
unlike n h g = not (eqb (to_bits binary64 (of n h)) (to_bits binary64 (of n g)))

not_same : (n : HitNumber) (h g : CurveHit) → T (unlike n h g) → of n h ≡ of n g → ⊥
unfolding unlike
not_same n h g u e = rw (e, eq-eqb (to_bits binary64 (of n g)) (to_bits binary64 (of n g)) refl) at u

unfoldable all_unlike : CurveHit → CurveHit → Bool
all_unlike h g = unlike ta h g && (unlike tb h g && (unlike x h g && unlike y h g))

all_differ : (n : HitNumber) (h g : CurveHit) → T (all_unlike h g) → of n h ≡ of n g → ⊥
unfolding all_unlike
all_differ n h g t =
    let (a, bcd) = both_of (unlike ta h g) _ t in
    let (b, cd) = both_of (unlike tb h g) _ bcd in
    let (c, d) = both_of (unlike x h g) _ cd in
    not_same n h g (each n a b c d)
  where
    each : (n : HitNumber) → T (unlike ta h g) → T (unlike tb h g) → T (unlike x h g) → T (unlike y h g) → T (unlike n h g)
    each ta a b c d = a
    each tb a b c d = b
    each x a b c d = c
    each y a b c d = d

-- cell i of depth k brackets, and its hit h lies more than 1e-7 after the cell's start
unfoldable clear : ℕ → ℕ → CurveHit → Bool
clear k i h = brackets (cell_of k i) && le (at k i ⊖ h.t_a) (neg ten⁻⁷)

-- opened to the last operation, so that it is computed
unfoldable passes : ℕ → ℕ → ℕ → Bool
unfolding clear all_unlike unlike last halved narrowed bracket closing_cell brackets cell sines cosines value point unit theta frame arc_radii sample span sine cosine angle.tau angle.units node under apart
    rest bend lack short_sine short_versine rule.turned sine_units cosine_units rounded ranged places floated float high size_of norm_tau arctangent ratio edge_of edge_size angle_of float_of arc_of units_at
    place_of series_at upper_steps last_step fine_step rough_step rough row_at row_from plain raised table coefs_at of_bits to_bits add sub mul div rem neg lt le eq of_int to_unsigned is_nan abs
passes k i j =
    let h = hit_on (narrowest (cell_of k i)) in
    let g = hit_on (narrowest (cell_of k j)) in
    (clear k i h && clear k j g) && all_unlike h g

-- ---- two cells that pass are two hits of the hunt

module _ (k : ℕ) (m : k ≤ 3) where
  hit_placed : (i : ℕ) → i < cells k → T (clear k i (hit_on (narrowest (cell_of k i)))) → Placed (hit_on (narrowest (cell_of k i))) (hits k (cells k))
  unfolding clear
  hit_placed i l t =
      let h = hit_on (narrowest (cell_of k i)) in
      let (b, far) = both_of (brackets (cell_of k i)) (le (at k i ⊖ h.t_a) (neg ten⁻⁷)) t in
      let all : suc i + (cells k - suc i) ≡ cells k = omega arith in
      placed (hits k i) h (hits k (cells k)) (rw (bracket_hits k m i l (is_true (brackets (cell_of k i)) b) far, all) at (later k (suc i) (cells k - suc i)))

  two_hits : (i j : ℕ) → i < cells k → j < cells k → T (passes k i j) → Distinct (hits k (cells k))
  unfolding passes
  two_hits i j l r t =
      let h = hit_on (narrowest (cell_of k i)) in
      let g = hit_on (narrowest (cell_of k j)) in
      let (clears, apart) = both_of (clear k i h && clear k j g) (all_unlike h g) t in
      let (first, second) = both_of (clear k i h) (clear k j g) clears in
      let p = hit_placed i l first in
      let q = hit_placed j r second in
      record { i = p.place; j = q.place; first = p.inside; second = q.inside; differ = λ (n : HitNumber). rw (p.is, q.is) (all_differ n h g apart) }

-- ---- the two cells of each depth that bracket

row_0 : T (passes 0 64 192)
unfolding passes
row_0 = tt

row_1 : T (passes 1 129 384)
unfolding passes
row_1 = tt

row_2 : T (passes 2 258 769)
unfolding passes
row_2 = tt

row_3 : T (passes 3 517 1538)
unfolding passes
row_3 = tt

-- the hunt goes on: no test ends it early
hunts : early (arc_radii flange) (span hole) ≡ false
unfolding early arc_radii span of_bits add sub div of_int lt abs
hunts = refl

-- THE THEOREM
pub gasket_distinct : (k : ℕ) → k ≤ 3 → Distinct (hunted hole flange k).hits
gasket_distinct k m = rw (hunted_on hole flange k hunts) (go k m)
  where
    go : (k : ℕ) → k ≤ 3 → Distinct (hits k (cells k))
    go nought m = two_hits 0 m 64 192 (lit< tt) (lit< tt) row_0
    go (suc nought) m = two_hits 1 m 129 384 (lit< tt) (lit< tt) row_1
    go (suc (suc nought)) m = two_hits 2 m 258 769 (lit< tt) (lit< tt) row_2
    go (suc (suc (suc nought))) m = two_hits 3 m 517 1538 (lit< tt) (lit< tt) row_3
    go (suc (suc (suc (suc k)))) m = absurd (omega arith)
