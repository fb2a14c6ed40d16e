-- What is proved of the outcome of some cells: the fates add up to the brackets, and the angles looked at are one for each cell and 61 for each bracket.
use mathlib.Core.Path.{◌≡◌, refl, sym, ap, ◌∙◌}
use mathlib.Core.Logic.{inl, inr}
use mathlib.Core.Bool.{Bool, true, false, cond}
use mathlib.Core.List.{List, [], ◌∷◌, ◌++◌, append-nil}
use Prim.Native.Nat.{ℕ, zero as nought, suc, ◌+◌, ◌*◌, ◌^◌, ◌≤◌, ◌<◌}
use native.Mathlib.Nat.{not-suc-le-zero, eq-or-lt_of_le}
use native.Mathlib.Numerals.{add-one}
use native.Mathlib.Omega.{arith}
use lib.ListN.{length, get_or, length-append, get_or-append}
use lib.Seq.{get_or-append-add}
use lib.Ieee.{Float}
use Rattle.std.specs.Prelude.{Option}
use Rattle.hunt_bracket.specs.declared.Frame.{Frame}
use Rattle.hunt_bracket.specs.declared.Cell.{Cell}
use Rattle.hunt_bracket.specs.declared.Fate.{Fate}
use Rattle.hunt_bracket.specs.declared.Fate.TheVariants.{OutsideA, OutsideB, Double, Hit}
use Rattle.hunt_bracket.specs.Frame.{value}
use Rattle.hunt.specs.Cells.{sample, brackets, is_closing, cell, first_cells, bracketed}
use Rattle.hunt_bracket.specs.Narrow.{opened, middles, last}
use Rattle.hunt_bracket.specs.Fate.{fate, kept}
use Rattle.hits.specs.Outcome.{Outcome, tally, none}
use Rattle.hunt.specs.Visits.{Small, look, settle, angles, resolve, visit, visits, scanned, fates, further}
use Rattle.hunt_bracket.proofs.Halvings.{middles-length}

-- ---- one look, one bracket
pub look_counts : (o : Outcome) (ts : List Float) (n : ℕ) → n ≡ length ts → further n (tally o) ≡ tally (look ts o)
look_counts o ts n e = rw (e, length-append)

pub settle_hits : (d : Fate) (o : Outcome) → o.hits ++ kept d ≡ (settle d o).hits
settle_hits OutsideA o = append-nil o.hits
settle_hits OutsideB o = append-nil o.hits
settle_hits Double o = append-nil o.hits
settle_hits (Hit h) o = refl

settle-brackets : (d : Fate) (o : Outcome) → (settle d o).brackets ≡ o.brackets + 1
settle-brackets OutsideA o = refl
settle-brackets OutsideB o = refl
settle-brackets Double o = refl
settle-brackets (Hit h) o = refl

settle-angles : (d : Fate) (o : Outcome) → (settle d o).angles ≡ o.angles
settle-angles OutsideA o = refl
settle-angles OutsideB o = refl
settle-angles Double o = refl
settle-angles (Hit h) o = refl

settle-fates : (d : Fate) (o : Outcome) → fates (settle d o) ≡ fates o + 1
settle-fates OutsideA o = omega arith
settle-fates OutsideB o = omega arith
settle-fates Double o = omega arith
settle-fates (Hit h) o = omega (arith, length-append o.hits (h ∷ []))

pub angles-length : (f : Frame) (c : Cell) → length (angles f c) ≡ 61
unfolding angles
angles-length f c = length-append (middles (value f) 60 (opened c)) (last (value f) (opened c) ∷ []) ∙ ap (λ (n : ℕ). n + 1) (middles-length (value f) 60 (opened c))

-- ---- one cell
module _ (f : Frame) (c : Cell) (o : Outcome) where
  abbrev ended : Outcome
  ended = look (c.hi ∷ []) o

  abbrev chosen : Bool → Outcome
  chosen b = cond b (resolve f c ended) ended

  visit_chosen : visit f c o ≡ chosen (brackets c)
  unfolding visit
  visit_chosen = refl

  chosen_brackets : (b : Bool) → (chosen b).brackets ≡ o.brackets + cond b 1 0
  unfolding resolve
  chosen_brackets true = settle-brackets (fate f o.hits (last (value f) (opened c))) (look (angles f c) ended)
  chosen_brackets false = omega arith

  chosen_fates : (b : Bool) → fates (chosen b) ≡ fates o + cond b 1 0
  unfolding resolve
  chosen_fates true = settle-fates (fate f o.hits (last (value f) (opened c))) (look (angles f c) ended)
  chosen_fates false = omega arith

  chosen_angles : (b : Bool) → length (chosen b).angles ≡ length o.angles + 1 + 61 * cond b 1 0
  unfolding resolve
  chosen_angles true =
      ap length (settle-angles (fate f o.hits (last (value f) (opened c))) (look (angles f c) ended))
      ∙ length-append ended.angles (angles f c)
      ∙ ap (λ (n : ℕ). n + length (angles f c)) (length-append o.angles (c.hi ∷ []))
      ∙ ap (λ (n : ℕ). length o.angles + 1 + n) (angles-length f c)
  chosen_angles false = omega (arith, length-append o.angles (c.hi ∷ []))

  pub visit-brackets : (visit f c o).brackets ≡ o.brackets + cond (brackets c) 1 0
  visit-brackets = rw visit_chosen (chosen_brackets (brackets c))

  pub visit-fates : fates (visit f c o) ≡ fates o + cond (brackets c) 1 0
  visit-fates = rw visit_chosen (chosen_fates (brackets c))

  pub visit-angles : length (visit f c o).angles ≡ length o.angles + 1 + 61 * cond (brackets c) 1 0
  visit-angles = rw visit_chosen (chosen_angles (brackets c))

-- ---- cell after cell
pub visits_more : (f : Frame) (cs : List Cell) (c : Cell) (o : Outcome) → visits f (cs ++ c ∷ []) o ≡ visit f c (visits f cs o)
unfolding visits
visits_more f [] c o = refl
visits_more f (d ∷ cs) c o = visits_more f cs c (visit f d o)

pub visits-brackets : (f : Frame) (cs : List Cell) (o : Outcome) → (visits f cs o).brackets ≡ o.brackets + bracketed cs
unfolding visits bracketed
visits-brackets f [] o = omega arith
visits-brackets f (c ∷ cs) o = omega (arith, visits-brackets f cs (visit f c o), visit-brackets f c o)

-- "the fates add up to the brackets"
pub visits-fates : (f : Frame) (cs : List Cell) (o : Outcome) → fates (visits f cs o) ≡ fates o + bracketed cs
unfolding visits bracketed
visits-fates f [] o = omega arith
visits-fates f (c ∷ cs) o = omega (arith, visits-fates f cs (visit f c o), visit-fates f c o)

-- one angle for each cell, and 61 for each that brackets
pub visits-angles : (f : Frame) (cs : List Cell) (o : Outcome) → length (visits f cs o).angles ≡ length o.angles + length cs + 61 * bracketed cs
unfolding visits bracketed
visits-angles f [] o = omega arith
visits-angles f (c ∷ cs) o = omega (arith, visits-angles f cs (visit f c o), visit-angles f c o)

pub bracketed-most : (cs : List Cell) → bracketed cs ≤ length cs
unfolding bracketed
bracketed-most [] = omega arith
bracketed-most (c ∷ cs) = omega (arith, most (brackets c), bracketed-most cs)
  where
    most : (b : Bool) → cond b 1 0 ≤ 1
    most true = omega arith
    most false = omega arith

-- ---- the first n cells
module _ (f : Frame) (start step : Float) (closing : Option ℕ) where
  pub first_cells-length : (n : ℕ) → length (first_cells f start step closing n) ≡ n
  unfolding first_cells
  first_cells-length nought = refl
  first_cells-length (suc n) = length-append (first_cells f start step closing n) (cell f start step closing n ∷ []) ∙ ap (λ (m : ℕ). m + 1) (first_cells-length n) ∙ add-one n

  -- cell i of the list is cell i, whatever stands for a place past its end
  pub first_cells-at : (n i : ℕ) (other : Cell) → i < n → get_or (first_cells f start step closing n) i other ≡ cell f start step closing i
  unfolding first_cells
  first_cells-at nought i other h = absurd (not-suc-le-zero h)
  first_cells-at (suc n) i other h = elim (eq-or-lt_of_le h) [
    | inl e ↦
        let same : i ≡ n = omega arith in
        let at : length (first_cells f start step closing n) + 0 ≡ i = omega (arith, first_cells-length n) in
        ap (λ (k : ℕ). get_or (first_cells f start step closing n ++ cell f start step closing n ∷ []) k other) (sym at) ∙
        get_or-append-add (first_cells f start step closing n) (cell f start step closing n ∷ []) 0 other ∙
        ap (cell f start step closing) (sym same)
    | inr l ↦
        let less : i < n = omega arith in
        let inside : i < length (first_cells f start step closing n) = omega (arith, first_cells-length n) in
        get_or-append (first_cells f start step closing n) (cell f start step closing n ∷ []) other i inside ∙ first_cells-at n i other less
  ]

  pub scanned-none : scanned f start step closing 0 ≡ look (start ∷ []) none
  unfolding scanned first_cells visits
  scanned-none = refl

  pub scanned_more : (n : ℕ) → scanned f start step closing (n + 1) ≡ visit f (cell f start step closing n) (scanned f start step closing n)
  unfolding scanned first_cells
  scanned_more n = rw add-one (visits_more f (first_cells f start step closing n) (cell f start step closing n) (look (start ∷ []) none))

  pub scanned-brackets : (n : ℕ) → (scanned f start step closing n).brackets ≡ bracketed (first_cells f start step closing n)
  unfolding scanned
  scanned-brackets n = visits-brackets f (first_cells f start step closing n) (look (start ∷ []) none) ∙ omega arith

  pub scanned-fates : (n : ℕ) → fates (scanned f start step closing n) ≡ (scanned f start step closing n).brackets
  unfolding scanned
  scanned-fates n = omega (arith, visits-fates f (first_cells f start step closing n) (look (start ∷ []) none), visits-brackets f (first_cells f start step closing n) (look (start ∷ []) none))

  pub scanned-angles : (n : ℕ) → length (scanned f start step closing n).angles ≡ n + 1 + 61 * (scanned f start step closing n).brackets
  unfolding scanned
  scanned-angles n =
      omega (arith, visits-angles f (first_cells f start step closing n) (look (start ∷ []) none), visits-brackets f (first_cells f start step closing n) (look (start ∷ []) none), first_cells-length n)

  pub scanned-most : (n : ℕ) → (scanned f start step closing n).brackets ≤ n
  scanned-most n = omega (arith, scanned-brackets n, bracketed-most (first_cells f start step closing n), first_cells-length n)

  -- a cell by its parts, the next sample being that after i
  pub cell_is : (i : ℕ) (lo hi gLo gHi : Float) → lo ≡ sample start step i → hi ≡ sample start step (i + 1) → gLo ≡ value f lo → gHi ≡ value f hi
      → ◌≡◌ {A = Cell} (record { lo = lo; hi = hi; g_lo = gLo; g_hi = gHi; closes = is_closing closing (i + 1) }) (cell f start step closing i)
  unfolding cell
  cell_is i lo hi gLo gHi p q u v = rw (u, v, p, q, add-one)

  -- counts that stay far from 2 ^ 32
  pub scanned_small : (n : ℕ) → n ≤ 32767 → Small (tally (scanned f start step closing n)) × (length (scanned f start step closing n).angles + 62 < 2 ^ 32) × (length (scanned f start step closing n).hits ≤ n)
  scanned_small n h =
      let b = scanned-most n in
      let s = scanned-fates n in
      let a = scanned-angles n in
      (record { hits = omega arith; brackets = omega arith; outside_a = omega arith; outside_b = omega arith; doubles = omega arith }, omega arith, omega arith)
