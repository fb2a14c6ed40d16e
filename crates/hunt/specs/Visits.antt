-- 01, 'Span and crossings': "It also holds the number of points evaluated, which equals the length of the list of angles in the definition". What a hunt makes of its outcome so far,
-- cell after cell.
use Rattle.std.specs.Prelude.{ℕ, ◌+◌, ◌≤◌, cond, Option, List, [], ◌∷◌, ◌++◌, length, Float}
use Rattle.hits.specs.declared.Tally.{Tally}
use Rattle.hits.specs.Outcome.{Outcome, none}
use Rattle.hunt_bracket.specs.declared.Frame.{Frame}
use Rattle.hunt_bracket.specs.declared.Cell.{Cell}
use Rattle.hunt_bracket.specs.declared.Fate.{Fate}
use Rattle.hunt_bracket.specs.declared.Fate.TheVariants.{OutsideA, OutsideB, Double, Hit}
use Rattle.hunt_bracket.specs.Frame.{value}
use Rattle.hunt.specs.Cells.{brackets, first_cells}
use Rattle.hunt_bracket.specs.Narrow.{opened, middles, last}
use Rattle.hunt_bracket.specs.Fate.{fate}

-- the angles ts are looked at
abbrev pub look : List Float → Outcome → Outcome
look ts o = record { hits = o.hits; brackets = o.brackets; outside_a = o.outside_a; outside_b = o.outside_b; doubles = o.doubles; angles = o.angles ++ ts }

-- one more bracket, with its fate
abbrev pub settle : Fate → Outcome → Outcome
settle OutsideA o = record { hits = o.hits; brackets = o.brackets + 1; outside_a = o.outside_a + 1; outside_b = o.outside_b; doubles = o.doubles; angles = o.angles }
settle OutsideB o = record { hits = o.hits; brackets = o.brackets + 1; outside_a = o.outside_a; outside_b = o.outside_b + 1; doubles = o.doubles; angles = o.angles }
settle Double o = record { hits = o.hits; brackets = o.brackets + 1; outside_a = o.outside_a; outside_b = o.outside_b; doubles = o.doubles + 1; angles = o.angles }
settle (Hit h) o = record { hits = o.hits ++ h ∷ []; brackets = o.brackets + 1; outside_a = o.outside_a; outside_b = o.outside_b; doubles = o.doubles; angles = o.angles }

-- the angles at which a bracket looks: 60 middles and the last point
unfoldable pub angles : Frame → Cell → List Float
angles f c = middles (value f) 60 (opened c) ++ last (value f) (opened c) ∷ []

-- a bracket that was narrowed to the angle t meets its fate
abbrev pub fated : Frame → Float → Outcome → Outcome
fated f t o = settle (fate f o.hits t) o

-- a cell that brackets is narrowed and meets its fate
unfoldable pub resolve : Frame → Cell → Outcome → Outcome
resolve f c o = fated f (last (value f) (opened c)) (look (angles f c) o)

-- one cell: its end is looked at
unfoldable pub visit : Frame → Cell → Outcome → Outcome
visit f c o =
    let ended = look (c.hi ∷ []) o in
    cond (brackets c) (resolve f c ended) ended

-- cell after cell
unfoldable pub visits : Frame → List Cell → Outcome → Outcome
visits f [] o = o
visits f (c ∷ cs) o = visits f cs (visit f c o)

-- the first n cells of the samples start + step * i, after the look at the start
unfoldable pub scanned : Frame → Float → Float → Option ℕ → ℕ → Outcome
scanned f start step closing n = visits f (first_cells f start step closing n) (look (start ∷ []) none)

-- the four fates together
abbrev pub fates : Outcome → ℕ
fates o = length o.hits + o.outside_a + o.outside_b + o.doubles

-- the counts with n more angles
abbrev pub further : ℕ → Tally → Tally
further n t = record { hits = t.hits; brackets = t.brackets; outside_a = t.outside_a; outside_b = t.outside_b; doubles = t.doubles; evaluations = t.evaluations + n }

-- counts that one more bracket cannot take past 2 ^ 32
pub record Small (t : Tally) : Type 0 where
  pub hits : t.hits ≤ 32767
  pub brackets : t.brackets ≤ 32767
  pub outside_a : t.outside_a ≤ 32767
  pub outside_b : t.outside_b ≤ 32767
  pub doubles : t.doubles ≤ 32767
