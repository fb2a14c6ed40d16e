-- P10 with the hole first, cell after cell: a hit stays where it is, none lies after the cells visited, and a bracket that lies far after its cell's start is no double.
use mathlib.Core.Path.{◌≡◌, refl, sym, ap, ◌∙◌}
use mathlib.Core.Bool.{Bool, true, false, cond}
use mathlib.Core.List.{List, [], ◌∷◌, ◌++◌, append-nil, append_assoc}
use Prim.Native.Nat.{ℕ, zero as nought, suc, ◌+◌, ◌^◌, ◌≤◌, ◌<◌}
use native.Mathlib.Nat.{add-zero, add-suc}
use native.Mathlib.Numerals.{add-one}
use native.Mathlib.Omega.{arith}
use lib.Dec.{T}
use lib.Pow.{pow_mono, pow_pos}
use lib.Ieee.{Float, binary64, add, sub, neg, le, fits, of_bits}
use lib.Ieee.Scale.{finite}
use Rattle.laws.specs.Literal.{zero_datum as zero, ten⁻⁷}
use Rattle.laws.specs.Rounded.{◌⊖◌}
use Rattle.laws.specs.Size.{power, abs, roomy}
use Rattle.laws.specs.Part.{part}
use Rattle.laws.proofs.Order.{le_trans, between_finite}
use Rattle.laws.proofs.Doubling.{roomy_finite}
use Rattle.arc.specs.Span.{arc_param_in_span}
use Rattle.hits.specs.declared.CurveHit.{CurveHit}
use Rattle.hits.specs.Hit.{hit_of}
use Rattle.hits.specs.Outcome.{Outcome}
use Rattle.hunt_bracket.specs.declared.Frame.{Frame}
use Rattle.hunt_bracket.specs.declared.Cell.{Cell}
use Rattle.hunt_bracket.specs.declared.Fate.TheVariants.{Double, Hit}
use Rattle.hunt_bracket.specs.Frame.{frame, value, point, theta}
use Rattle.hunt_bracket.specs.Narrow.{opened, last}
use Rattle.hunt_bracket.specs.Fate.{double, fate}
use Rattle.hunt.specs.Cells.{cells, span, sample, closing_cell, brackets, cell}
use Rattle.hunt.specs.Visits.{look, settle, angles, resolve, visit, scanned}
use Rattle.hunt.proofs.Outcomes.{scanned-none, scanned_more}
use Rattle.hunt_refine.proofs.SampleOrder.{cut_fits, cut_roomy, cut_rises}
use Rattle.hunt_distinct.specs.Gasket.{hole, flange}
use Rattle.hunt_distinct.proofs.Within.{turned, last_within, turned_between, far_apart}

abbrev pub both : Frame
both = frame hole flange

-- ---- one cell

-- the hit of an angle: no angle is outside a whole curve
abbrev pub hit_on : Float → CurveHit
hit_on t = hit_of (turned t) (turned (theta both (point both t))) (point both t)

fate_is : (hs : List CurveHit) (t : Float) → fate both hs t ≡ cond (double (turned t) hs) Double (Hit (hit_on t))
unfolding fate arc_param_in_span frame
fate_is hs t = refl

-- what a cell adds, by whether it brackets and whether its point is a double
abbrev added : Bool → Bool → CurveHit → List CurveHit
added true false h = h ∷ []
added true true h = []
added false d h = []

-- the angle to which a cell is narrowed
abbrev pub narrowest : Cell → Float
narrowest c = last (value both) (opened c)

visit_adds : (c : Cell) (o : Outcome) → (visit both c o).hits ≡ o.hits ++ added (brackets c) (double (turned (narrowest c)) o.hits) (hit_on (narrowest c))
unfolding visit resolve
visit_adds c o = rw (fate_is o.hits (narrowest c)) (go (brackets c) (double (turned (narrowest c)) o.hits) (hit_on (narrowest c)))
  where
    ended : Outcome
    ended = look (c.hi ∷ []) o

    go : (b d : Bool) (h : CurveHit) → (cond b (settle (cond d Double (Hit h)) (look (angles both c) ended)) ended).hits ≡ o.hits ++ added b d h
    go true true h = sym (append-nil o.hits)
    go true false h = refl
    go false d h = sym (append-nil o.hits)

-- a list that begins with another
pub record Begins (hs gs : List CurveHit) : Type 0 where
  pub rest : List CurveHit
  pub is : gs ≡ hs ++ rest

-- ---- hits whose parameter on the hole is not after x

data Behind (x : Float) : List CurveHit → Type 0 where
  empty : Behind x []
  more : {h : CurveHit} {hs : List CurveHit} → T (le zero h.t_a) → T (le h.t_a x) → Behind x hs → Behind x (h ∷ hs)

behind_later : {x y : Float} {hs : List CurveHit} → T (le x y) → Behind x hs → Behind y hs
behind_later o empty = empty
behind_later {x} {y} o (more {h} l m b) = more l (le_trans h.t_a x y m o) (behind_later o b)

behind_more : {x : Float} {hs : List CurveHit} (b d : Bool) (h : CurveHit) → T (le zero h.t_a) → T (le h.t_a x) → Behind x hs → Behind x (hs ++ added b d h)
behind_more true true h l m empty = empty
behind_more true false h l m empty = more l m empty
behind_more false d h l m empty = empty
behind_more b d h l m (more p q r) = more p q (behind_more b d h l m r)

no_double : {x : Float} {hs : List CurveHit} (t : Float) → T (finite x) → T (finite t) → T (le (x ⊖ t) (neg ten⁻⁷)) → Behind x hs → double t hs ≡ false
unfolding double
no_double t fx ft far empty = refl
no_double {x} t fx ft far (more {h} l m b) = rw (far_apart x t h.t_a fx ft l m far) (no_double t fx ft far b)

-- ---- the first n cells of a depth

module _ (k : ℕ) where
  abbrev step : Float
  step = part (span hole) (cells k)

  -- sample i, cell i, and the hits of the first n cells
  abbrev pub at : ℕ → Float
  at i = sample hole.start step i

  abbrev pub cell_of : ℕ → Cell
  cell_of i = cell both hole.start step (closing_cell k) i

  abbrev pub hits : ℕ → List CurveHit
  hits n = (scanned both hole.start step (closing_cell k) n).hits

  next : (i : ℕ) → hits (suc i) ≡ hits i ++ added (brackets (cell_of i)) (double (turned (narrowest (cell_of i))) (hits i)) (hit_on (narrowest (cell_of i)))
  next i =
      ap hits (sym (add-one i))
      ∙ ap (λ (o : Outcome). o.hits) (scanned_more both hole.start step (closing_cell k) i)
      ∙ visit_adds (cell_of i) (scanned both hole.start step (closing_cell k) i)

  -- ---- a hit stays where it is
  pub later : (n m : ℕ) → Begins (hits n) (hits (n + m))
  later n nought = record { rest = []; is = rw add-zero (sym (append-nil (hits n))) }
  later n (suc m) =
      let before = later n m in
      let more = added (brackets (cell_of (n + m))) (double (turned (narrowest (cell_of (n + m)))) (hits (n + m))) (hit_on (narrowest (cell_of (n + m)))) in
      record { rest = before.rest ++ more; is = ap hits (add-suc n m) ∙ next (n + m) ∙ ap (λ (hs : List CurveHit). hs ++ more) before.is ∙ append_assoc (hits n) before.rest more }

  -- ---- of the depths that a call takes
  module _ (h : k ≤ 3) where
    small : cells k ≤ 2 ^ 20
    small = let r : 2 ^ k ≤ 2 ^ 3 = pow_mono h in omega arith

    some : 0 < cells k
    some = omega (arith, pow_pos k)

    start_small : T (le (abs hole.start) (power 12))
    unfolding le abs of_bits
    start_small = tt

    span_small : T (le (abs (span hole)) (power 12))
    unfolding le abs of_bits span add sub
    span_small = tt

    rises : (i : ℕ) → i < cells k → T (le (at i) (at (suc i)))
    rises i m = cut_rises hole.start (span hole) start_small span_small (cells k) some small (unfold fits of_bits in tt) (unfold le of_bits span add sub in tt) i (omega (arith, small))

    held : (i : ℕ) → T (fits binary64 (at i))
    held i = cut_fits hole.start (span hole) (cells k) i (unfold fits of_bits in tt)

    bounded : (i : ℕ) → i ≤ cells k → T (roomy binary64 (at i))
    bounded i m = cut_roomy hole.start (span hole) start_small span_small (cells k) some small i (omega (arith, small))

    above : (i : ℕ) → i ≤ cells k → T (le zero (at i))
    above nought m = unfold sample le of_bits in tt
    above (suc i) m = le_trans zero (at i) (at (suc i)) (above i (omega arith)) (rises i m)

    -- the angle of cell i has its parameter between 0 and the cell's end
    param_before : (i : ℕ) → i < cells k → T (le zero (turned (narrowest (cell_of i)))) × T (le (turned (narrowest (cell_of i))) (at (suc i)))
    param_before i m =
        let t = narrowest (cell_of i) in
        let (f, from, to) =
        last_within (value both) (at i) (at (suc i)) (bounded i (omega arith)) (bounded (suc i) m) (opened (cell_of i))
        (unfold cell in refl) (unfold cell in refl) (held i) (held (suc i)) (rises i m) in
        let low = le_trans zero (at i) t (above i (omega arith)) from in
        let p = between_finite zero t (at (suc i)) tt (roomy_finite binary64 (at (suc i)) (bounded (suc i) m)) low to in
        let (a, b) = turned_between t p f low in
        (a, le_trans (turned t) t (at (suc i)) b to)

    behind : (n : ℕ) → n ≤ cells k → Behind (at n) (hits n)
    behind nought m = rw (ap (λ (o : Outcome). o.hits) (scanned-none both hole.start step (closing_cell k))) empty
    behind (suc n) m =
        let (a, b) = param_before n m in
        rw (next n)
        (behind_more (brackets (cell_of n)) (double (turned (narrowest (cell_of n))) (hits n)) (hit_on (narrowest (cell_of n))) a b
        (behind_later (rises n m) (behind n (omega arith))))

    -- a bracket that lies far after its cell's start is the next hit
    pub bracket_hits : (i : ℕ) → i < cells k → brackets (cell_of i) ≡ true → T (le (at i ⊖ turned (narrowest (cell_of i))) (neg ten⁻⁷))
        → hits (suc i) ≡ hits i ++ hit_on (narrowest (cell_of i)) ∷ []
    bracket_hits i m b far =
        let (low, high) = param_before i m in
        let end = roomy_finite binary64 (at (suc i)) (bounded (suc i) m) in
        let p = between_finite zero (turned (narrowest (cell_of i))) (at (suc i)) tt end low high in
        let d = no_double (turned (narrowest (cell_of i))) (roomy_finite binary64 (at i) (bounded i (omega arith))) p far (behind i (omega arith)) in
        next i ∙ rw (b, d)
