-- Demand 3: "if every inside-outside value that the two hunts work out is zero or of size 2^-53 to 2^200, each cell where the coarser brackets a crossing contains a cell where the
-- finer does; brackets never grow fewer; each, once narrowed, lies in its own cell and still has ends of opposite sign or an end at zero." 02, K5: "Demand 3 reads with this rule and
-- holds from depth 0 upwards as well." A cell of level k brackets by the rule of its level: `brackets` and `closing_cell` of the crate hunt.
use Rattle.std.specs.Prelude.{ℕ, suc, ◌-◌, ◌*◌, ◌^◌, ◌≤◌, ◌<◌, Bool, true, false, ◌||◌, ◌≡◌, T, Float}
use Rattle.std.specs.Float.Ieee.{le, lt, eq}
use Rattle.laws.specs.Rounded.{◌⊗◌}
use Rattle.laws.specs.Literal.{zero}
use Rattle.laws.specs.Tame.{tame}
use Rattle.curves.specs.declared.Arc.{Arc}
use Rattle.hunt_bracket.specs.declared.Stretch.{Stretch}
use Rattle.hunt.specs.Cells.{cells, span, brackets}
use Rattle.hunt_bracket.specs.Narrow.{opened, middle_of, narrowed}
use Rattle.hunt.specs.Hunt.{hunted}
use Rattle.hunt_refine.specs.Levels.{sample_at, cell_at, value_of, ends}

-- THE PREMISE: the values that the hunt of depth k works out, at its samples and at the 60 middles of each bracket
pub record Worked (a b : Arc) (k : ℕ) : Type 0 where
  pub samples : (i : ℕ) → i ≤ cells k → T (tame (value_of a b (sample_at a k i)))
  pub middles : (i : ℕ) → i < cells k → T (brackets (cell_at a b k i)) → (j : ℕ) → j < 60 → T (tame (value_of a b (middle_of (narrowed (value_of a b) j (opened (cell_at a b k i))))))

-- the order along the span: rising where `up`, falling where not
abbrev pub along : Bool → Float → Float → Bool
along true x y = le x y
along false x y = le y x

abbrev pub rising : Arc → Bool
rising a = le zero (span a)

-- how many cells of depth k' are the parts of one cell of depth k
abbrev pub parts : ℕ → ℕ → ℕ
parts k k' = 2 ^ (k' - k)

-- a cell of depth k' that brackets and lies in cell i of depth k: it is one of that cell's own parts, and its angles lie between that cell's
pub record Inside (a b : Arc) (k i k' : ℕ) : Type 0 where
  pub place : ℕ
  pub exists : place < cells k'
  pub not_before : parts k k' * i ≤ place
  pub not_after : place < parts k k' * suc i
  pub brackets : T (brackets (cell_at a b k' place))
  pub from : T (along (rising a) (cell_at a b k i).lo (cell_at a b k' place).lo)
  pub to : T (along (rising a) (cell_at a b k' place).hi (cell_at a b k i).hi)

-- "each cell where the coarser brackets a crossing contains a cell where the finer does": no cell is visited where a test ends the call
pub record Contained (a b : Arc) (k k' : ℕ) : Type 0 where
  pub contains : ends a b ≡ false → (i : ℕ) → i < cells k → T (brackets (cell_at a b k i)) → Inside a b k i k'
  -- "brackets never grow fewer"
  pub no_fewer : (hunted a b k).brackets ≤ (hunted a b k').brackets

-- values of opposite sign, or one of them zero
abbrev pub straddles : Float → Float → Bool
straddles x y = (eq x zero || eq y zero) || lt (x ⊗ y) zero

-- "lies in its own cell and still has ends of opposite sign or an end at zero": a stretch of the cell from x to y, g the value of an angle
pub record Kept (g : Float → Float) (up : Bool) (x y : Float) (s : Stretch) : Type 0 where
  pub from : T (along up x s.lo)
  pub in_order : T (along up s.lo s.hi)
  pub to : T (along up s.hi y)
  pub ends : T (straddles (g s.lo) (g s.hi))
  -- the point that is worked out at the end lies there too
  pub point : T (along up s.lo (middle_of s)) × T (along up (middle_of s) s.hi)

-- each bracket of the hunt of depth k, once narrowed by the 60 halvings
abbrev pub EachKept : Arc → Arc → ℕ → Type 0
EachKept a b k = (i : ℕ) → i < cells k → T (brackets (cell_at a b k i))
    → Kept (value_of a b) (rising a) (cell_at a b k i).lo (cell_at a b k i).hi (narrowed (value_of a b) 60 (opened (cell_at a b k i)))
