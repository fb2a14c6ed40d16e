-- DEMAND 3, in the words of specs/Promise.antt: a finer hunt never loses what a coarser one brackets, for any two levels up to 7 (256 * 2 ^ 7 cells): from level 0, which is without
-- K5's rule, to any, and between any two that have it.
use mathlib.Core.Path.{◌≡◌, refl, sym, ap, ◌∙◌, subst}
use mathlib.Core.Logic.{inl, inr}
use mathlib.Core.Bool.{Bool, true, false, cond, not, ◌||◌, true≢false}
use Prim.Native.Nat.{ℕ, zero as nought, suc, ◌+◌, ◌-◌, ◌*◌, ◌^◌, ◌≤◌, ◌<◌}
use native.Mathlib.Nat.{le_refl, mul-le-mul_left, eq-or-lt_of_le}
use native.Mathlib.Omega.{arith}
use lib.Dec.{T, lit≤, eqb→eq}
use lib.Pow.{pow-add, pow_pos, pow_mono}
use lib.Ieee.{Float, binary64, le, lt, fits, of_bits}
use lib.Ieee.Fits.{sub-fits, eq→eqb}
use lib.Ieee.Scale.{finite}
use Rattle.laws.specs.Size.{power, abs}
use Rattle.laws.specs.Literal.{zero_datum as zero, ten⁻¹², ten⁻¹⁵}
use Rattle.laws.specs.Rounded.{◌⊕◌}
use Rattle.laws.specs.Part.{part, wide}
use Rattle.laws.proofs.Constants.{zero_bits}
use Rattle.laws.proofs.Order.{le_trans as float-trans, lt-or-le, lt→le, finite_number}
use Rattle.laws.proofs.Bounds.{add-bounded, sub-bounded, bounded_finite, power_le}
use Rattle.laws.proofs.Doubling.{roomy_finite}
use Rattle.scalar.specs.Angles.{tau}
use Rattle.curves.specs.declared.Arc.{Arc}
use Rattle.arc.specs.Frame.{arc_radii}
use Rattle.hunt_bracket.specs.Frame.{frame}
use Rattle.hunt.specs.Cells.{cells, span, closing_cell, is_closing, cell, brackets, bracketed, first_cells}
use Rattle.hunt_bracket.specs.Narrow.{opened, narrowed}
use Rattle.hunt.specs.Hunt.{early, hunted}
use Rattle.hunt.proofs.Closing.{closing_none, closing_last}
use Rattle.hunt.proofs.Hunts.{hunted-early, hunted-brackets}
use Rattle.hunt_refine.specs.Levels.{sample_at, cell_at, value_of, ends}
use Rattle.hunt_refine.specs.Limits.{Limited}
use Rattle.hunt_refine.specs.Held.{StartHeld}
use Rattle.hunt_refine.specs.Promise.{Worked, along, rising, parts, Inside, Contained, EachKept}
use Rattle.hunt_refine.proofs.Samples.{cut_depths, span-wide}
use Rattle.hunt_refine.proofs.SampleOrder.{cut_fits, cut_roomy, cut_rises, cut_falls}
use Rattle.hunt_refine.proofs.Run.{Found}
use Rattle.hunt_refine.proofs.LastCell.{passes, passes_straddles, refines_closing}
use Rattle.hunt_refine.proofs.Count.{count, count_refines, bracketed-count}
use Rattle.hunt_refine.proofs.Narrow.{along_refl, along_trans, narrows, held_kept}

-- ---- the cells of two levels, k and k + d
cells_deeper : (k d : ℕ) → cells (k + d) ≡ 2 ^ d * cells k
cells_deeper k d = rw (pow-add 2 k d) (omega arith)

-- the last cell of a level that has the rule ends where the last of a finer one does, which has it too
closing_deeper : (k d i : ℕ) → T (is_closing (closing_cell k) (suc i)) → T (is_closing (closing_cell (k + d)) (2 ^ d * suc i))
closing_deeper nought d i t = absurd (rw closing_none at t)
closing_deeper (suc k) d i t =
    let last : suc i ≡ cells (suc k) = eqb→eq (suc i) (cells (suc k)) (rw (closing_last (suc k) (omega arith)) at t) in
    rw (closing_last (suc k + d) (omega arith)) (eq→eqb (ap (λ (n : ℕ). 2 ^ d * n) last ∙ sym (cells_deeper (suc k) d)))

-- ---- the span of an arc within limits
span-held : (a : Arc) → T (fits binary64 (span a))
unfolding span
span-held a = sub-fits binary64 (cond a.closed (a.start ⊕ tau) a.end) a.start

module _ (a : Arc) (l : Limited a) where
  end_small : (c : Bool) → T (le (abs (cond c (a.start ⊕ tau) a.end)) (power 11))
  end_small true = add-bounded a.start tau 10 (lit≤ tt) l.start (unfold of_bits abs le in tt)
  end_small false = float-trans (abs a.end) (power 10) (power 11) l.end (power_le 10 11 (lit≤ tt))

  start_small : T (le (abs a.start) (power 12))
  start_small = float-trans (abs a.start) (power 10) (power 12) l.start (power_le 10 12 (lit≤ tt))

  span_small : T (le (abs (span a)) (power 12))
  unfolding span
  span_small =
      sub-bounded (cond a.closed (a.start ⊕ tau) a.end) a.start 11 (lit≤ tt) (end_small a.closed)
      (float-trans (abs a.start) (power 10) (power 11) l.start (power_le 10 11 (lit≤ tt)))

  span_finite : T (finite (span a))
  span_finite = bounded_finite (span a) 12 span_small

  -- the hunt goes on: its span is not too short
  long : (b : Arc) → ends a b ≡ false → T (le wide (abs (span a)))
  long b e = span-wide (span a) span_finite (last (lt (arc_radii b).a ten⁻¹²) (lt (arc_radii b).b ten⁻¹²) (lt (abs (part (span a) 256)) ten⁻¹⁵) (unfold early in e))
    where
      last : (x y z : Bool) → x || (y || z) ≡ false → T (not z)
      last true y z e = absurd (true≢false e)
      last false true z e = absurd (true≢false e)
      last false false true e = absurd (true≢false e)
      last false false false e = tt

  -- ---- one level: the samples come in the order of the span
  module _ (held : StartHeld a) (k : ℕ) (h : k ≤ 7) where
    small : (i : ℕ) → i ≤ cells k → i ≤ 2 ^ 20
    small i m = let r : 2 ^ k ≤ 2 ^ 7 = pow_mono h in omega arith

    some : 0 < cells k
    some = omega (arith, pow_pos k)

    next-along : (i : ℕ) → i < cells k → T (along (rising a) (sample_at a k i) (sample_at a k (suc i)))
    next-along i m = go (rising a) refl
      where
        go : (c : Bool) → rising a ≡ c → T (along c (sample_at a k i) (sample_at a k (suc i)))
        go true e = cut_rises a.start (span a) start_small span_small (cells k) some (small (cells k) (le_refl (cells k))) held (up e) i (small (suc i) m)
          where
            up : rising a ≡ true → T (le zero (span a))
            up q = rw (← zero_bits, q) tt
        go false e = cut_falls a.start (span a) start_small span_small (cells k) some (small (cells k) (le_refl (cells k))) held (down e) i (small (suc i) m)
          where
            down : rising a ≡ false → T (le (span a) zero)
            down q = elim (lt-or-le (span a) zero (finite_number (span a) span_finite) (unfold lib.Ieee.is_nan in tt)) [ inl s ↦ lt→le (span a) zero s | inr s ↦ absurd (rw (← zero_bits, q) at s) ]

    sample_finite : (i : ℕ) → i ≤ cells k → T (finite (sample_at a k i))
    sample_finite i m = roomy_finite binary64 (sample_at a k i) (cut_roomy a.start (span a) start_small span_small (cells k) some (small (cells k) (le_refl (cells k))) i (small i m))

    samples_along : (i j : ℕ) → i ≤ j → j ≤ cells k → T (along (rising a) (sample_at a k i) (sample_at a k j))
    samples_along i nought p q = subst (λ (n : ℕ). T (along (rising a) (sample_at a k n) (sample_at a k 0))) (zero_is i p) (along_refl (rising a) (sample_at a k 0) (sample_finite 0 q))
      where
        zero_is : (i : ℕ) → i ≤ 0 → 0 ≡ i
        zero_is i p = omega arith
    samples_along i (suc j) p q = elim (eq-or-lt_of_le p) [
      | inl e ↦ subst (λ (n : ℕ). T (along (rising a) (sample_at a k n) (sample_at a k (suc j)))) (sym e) (along_refl (rising a) (sample_at a k (suc j)) (sample_finite (suc j) q))
      | inr m ↦ along_trans (rising a) (sample_at a k i) (sample_at a k j) (sample_at a k (suc j)) (samples_along i j (less i j m) (fewer j q)) (next-along j q)
    ]
      where
        less : (i j : ℕ) → i < suc j → i ≤ j
        less i j m = omega arith

        fewer : (j : ℕ) → suc j ≤ cells k → j ≤ cells k
        fewer j q = omega arith

    -- ---- THE NARROWED BRACKET
    pub bracket-kept : (b : Arc) → Worked a b k → EachKept a b k
    unfolding cell brackets
    bracket-kept b w i m c =
        let x = sample_at a k i in
        let y = sample_at a k (suc i) in
        let g = value_of a b in
        let tx = w.samples i (small' i m) in
        let ty = w.samples (suc i) m in
        let rx = cut_roomy a.start (span a) start_small span_small (cells k) some (small (cells k) (le_refl (cells k))) i (small i (small' i m)) in
        let ry = cut_roomy a.start (span a) start_small span_small (cells k) some (small (cells k) (le_refl (cells k))) (suc i) (small (suc i) m) in
        held_kept g (rising a) x y rx ry (narrowed g 60 (opened (cell_at a b k i)))
        (narrows g (rising a) x y (cut_fits a.start (span a) (cells k) i held)
        (cut_fits a.start (span a) (cells k) (suc i) held) rx ry (next-along i m) tx ty
        (passes_straddles (closing_cell k) (λ (j : ℕ). g (sample_at a k j)) i tx ty c) 60 (w.middles i m c))
      where
        small' : (i : ℕ) → i < cells k → i ≤ cells k
        small' i m = omega arith

  -- ---- two levels, k and k + d
  module _ (b : Arc) (e : ends a b ≡ false) (k d : ℕ) (h : k + d ≤ 7) (w : Worked a b (k + d)) where
    deeper : cells (k + d) ≡ 2 ^ d * cells k
    deeper = cells_deeper k d

    -- sample i of level k is sample 2^d * i of level k + d
    same_sample : (i : ℕ) → i ≤ cells k → sample_at a k i ≡ sample_at a (k + d) (2 ^ d * i)
    same_sample i m = sym (cut_depths a.start (span a) (span-held a) span_finite (long b e) k d i h m)

    abbrev coarse : ℕ → Float
    coarse i = value_of a b (sample_at a k i)

    abbrev fine : ℕ → Float
    fine i = value_of a b (sample_at a (k + d) i)

    finer : (i : ℕ) → i < cells k → T (passes (closing_cell k) coarse i) → Found (passes (closing_cell (k + d)) fine) (2 ^ d * i) (2 ^ d * suc i)
    finer =
        refines_closing coarse fine (2 ^ d) (cells k) (closing_cell k) (closing_cell (k + d)) (pow_pos d)
        (λ (i : ℕ) (m : i ≤ cells k). ap (value_of a b) (same_sample i m))
        (λ (j : ℕ) (m : j ≤ 2 ^ d * cells k). w.samples j (rw deeper m))
        (closing_deeper k d)

    within : (i : ℕ) → i < cells k → 2 ^ d * suc i ≤ cells (k + d)
    within i m = rw deeper (mul-le-mul_left (2 ^ d) m)

    own_parts : parts k (k + d) ≡ 2 ^ d
    own_parts = let e : k + d - k ≡ d = omega arith in rw e

    inside : StartHeld a → (i : ℕ) → i < cells k → Found (passes (closing_cell (k + d)) fine) (2 ^ d * i) (2 ^ d * suc i) → Inside a b k i (k + d)
    unfolding cell brackets
    inside held i m f =
        let u = within i m in
        record {
          place = f.place;
          exists = omega (arith, f.before);
          not_before = rw own_parts f.after;
          not_after = rw own_parts f.before;
          brackets = f.passes;
          from = rw (same_sample i (omega arith)) (samples_along held (k + d) h (2 ^ d * i) f.place f.after (omega (arith, f.before)));
          to = rw (same_sample (suc i) m) (samples_along held (k + d) h (suc f.place) (2 ^ d * suc i) f.before u);
        }

    contains : StartHeld a → (i : ℕ) → i < cells k → T (brackets (cell_at a b k i)) → Inside a b k i (k + d)
    unfolding cell brackets
    contains held i m c = inside held i m (finer i m c)

    counted : (n : ℕ) → bracketed (first_cells (frame a b) a.start (part (span a) (cells n)) (closing_cell n) (cells n))
        ≡ count (passes (closing_cell n) (λ (i : ℕ). value_of a b (sample_at a n i))) (cells n)
    unfolding cell brackets
    counted n = bracketed-count (frame a b) a.start (part (span a) (cells n)) (closing_cell n) (cells n)

    grows : (hunted a b k).brackets ≤ (hunted a b (k + d)).brackets
    grows = rw (hunted-brackets a b k e, hunted-brackets a b (k + d) e, counted k, counted (k + d))
        (subst (λ (n : ℕ). count (passes (closing_cell k) coarse) (cells k) ≤ count (passes (closing_cell (k + d)) fine) n) (sym deeper)
        (count_refines (passes (closing_cell k) coarse) (passes (closing_cell (k + d)) fine) (2 ^ d) (cells k) finer))

-- ---- any two levels: the coarser one's values are among the finer one's
module _ (a b : Arc) (l : Limited a) (k k' : ℕ) (p : k ≤ k') (q : k' ≤ 7) (w : ends a b ≡ false → Worked a b k') where
  deep : k + (k' - k) ≡ k'
  deep = omega arith

  -- BRACKETS NEVER GROW FEWER, whatever a's start
  pub never_fewer : (hunted a b k).brackets ≤ (hunted a b k').brackets
  never_fewer = subst (λ (n : ℕ). (hunted a b k).brackets ≤ (hunted a b n).brackets) deep (go (ends a b) refl)
    where
      go : (c : Bool) → ends a b ≡ c → (hunted a b k).brackets ≤ (hunted a b (k + (k' - k))).brackets
      go true e = rw (hunted-early a b k e, hunted-early a b (k + (k' - k)) e) (omega arith)
      go false e = grows a l b e k (k' - k) (rw deep q) (rw deep (w e))

  cell_contains : StartHeld a → ends a b ≡ false → (i : ℕ) → i < cells k → T (brackets (cell_at a b k i)) → Inside a b k i k'
  cell_contains held e i m c = subst (Inside a b k i) deep (contains a l b e k (k' - k) (rw deep q) (rw deep (w e)) held i m c)

  -- THE DEMAND
  pub finer_never_loses : StartHeld a → Contained a b k k'
  finer_never_loses held = record { contains = cell_contains held; no_fewer = never_fewer }

-- each bracket, once narrowed
pub bracket-stays : (a b : Arc) → Limited a → StartHeld a → (k : ℕ) → k ≤ 7 → Worked a b k → EachKept a b k
bracket-stays a b l held k h = bracket-kept a l held k h b
