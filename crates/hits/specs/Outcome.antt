-- 01, 'Span and crossings': "The answer holds brackets and the four fates, each counted by its own rule; the fates add up to the brackets. It also holds the number of points
-- evaluated, which equals the length of the list of angles in the definition". What a definition gives before any refusal: the hits, the counts, and the angles looked at, in order.
use Rattle.std.specs.Prelude.{ℕ, List, [], length, Float}
use Rattle.hits.specs.declared.CurveHit.{CurveHit}
use Rattle.hits.specs.declared.Tally.{Tally}

pub record Outcome : Type 0 where
  pub hits : List CurveHit
  pub brackets : ℕ
  pub outside_a : ℕ
  pub outside_b : ℕ
  pub doubles : ℕ
  pub angles : List Float

-- the counts of an outcome
abbrev pub tally : Outcome → Tally
tally o = record {
  hits = length o.hits;
  brackets = o.brackets;
  outside_a = o.outside_a;
  outside_b = o.outside_b;
  doubles = o.doubles;
  evaluations = length o.angles;
}

-- where nothing is sampled there are hits alone
abbrev pub closed : List CurveHit → Outcome
closed hs = record { hits = hs; brackets = 0; outside_a = 0; outside_b = 0; doubles = 0; angles = [] }

abbrev pub none : Outcome
none = closed []
