-- 01, 'Span and crossings': "the span of a is start to end, or start to start + TAU if closed. Depth k cuts it into N = 256 times 2^k cells. Sample 0 is the start itself;
-- sample i from 1 is start + step * i with step = span / N, the span being that end minus the start." "A cell brackets if its first value is 0 or the product of its two
-- values is below 0. The last sample counts only as the end of its cell." 02, K5: "At depths 1 to 3 the last cell shall also bracket when its end value is 0. Depth 0 stays equal to the
-- Rust."
use Rattle.std.specs.Prelude.{ℕ, zero as nought, suc, ◌+◌, ◌*◌, ◌^◌, Bool, false, cond, ◌&&◌, ◌||◌, Option, Some, None, List, [], ◌∷◌, ◌++◌, eqb, pos, Float}
use Rattle.std.specs.Float.{binary64}
use Rattle.std.specs.Float.Ieee.{of_int, lt, eq}
use Rattle.laws.specs.Rounded.{◌⊕◌, ◌⊖◌, ◌⊗◌}
use Rattle.laws.specs.Literal.{zero}
use Rattle.scalar.specs.Angles.{tau}
use Rattle.curves.specs.declared.Arc.{Arc}
use Rattle.hunt_bracket.specs.declared.Frame.{Frame}
use Rattle.hunt_bracket.specs.declared.Cell.{Cell}
use Rattle.hunt_bracket.specs.Frame.{value}

abbrev pub cells : ℕ → ℕ
cells k = 256 * 2 ^ k

unfoldable pub span : Arc → Float
span a = cond a.closed (a.start ⊕ tau) a.end ⊖ a.start

unfoldable pub sample : Float → Float → ℕ → Float
sample start step i = cond (eqb i 0) start (start ⊕ step ⊗ of_int binary64 (pos i))

-- the Rust's rule, in every cell of every depth: `prev_g == 0.0 || prev_g * gv < 0.0`
unfoldable pub bracket : Float → Float → Bool
bracket first second = eq first zero || lt (first ⊗ second) zero

-- the cell of depth k that closes the span, counted from 1: the last; at depth 0 there is none
unfoldable pub closing_cell : ℕ → Option ℕ
closing_cell k = cond (eqb k 0) None (Some (cells k))

-- whether it is the cell i, counted from 1
abbrev pub is_closing : Option ℕ → ℕ → Bool
is_closing None i = false
is_closing (Some n) i = eqb i n

-- cell i, counted from 0: from sample i to the next, with the values there
unfoldable pub cell : Frame → Float → Float → Option ℕ → ℕ → Cell
cell f start step closing i =
    let lo = sample start step i in
    let hi = sample start step (suc i) in
    record { lo = lo; hi = hi; g_lo = value f lo; g_hi = value f hi; closes = is_closing closing (suc i) }

-- WHETHER A CELL BRACKETS
unfoldable pub brackets : Cell → Bool
brackets c = bracket c.g_lo c.g_hi || (c.closes && eq c.g_hi zero)

-- the first n cells
unfoldable pub first_cells : Frame → Float → Float → Option ℕ → ℕ → List Cell
first_cells f start step closing nought = []
first_cells f start step closing (suc n) = first_cells f start step closing n ++ cell f start step closing n ∷ []

-- how many of some cells bracket
unfoldable pub bracketed : List Cell → ℕ
bracketed [] = 0
bracketed (c ∷ cs) = cond (brackets c) 1 0 + bracketed cs
