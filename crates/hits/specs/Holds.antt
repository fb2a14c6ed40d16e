-- 01, 'Span and crossings': "The answer holds brackets and the four fates". What a search for crossings knows while it works, and leaves at its end: the counts are those of an
-- outcome, and the room has its hits.
use Rattle.std.specs.Prelude.{◌≡◌, List, Float}
use Rattle.hits.specs.declared.Tally.{Tally}
use Rattle.hits.specs.Hit.{written}
use Rattle.hits.specs.Outcome.{Outcome, tally}

-- the outcome, the room as it was lent; the counts and the room now
pub record Holds (o : Outcome) (lent : List Float) (t : Tally) (room : List Float) : Type 0 where
  pub counts : t ≡ tally o
  pub hits : room ≡ written o.hits lent

-- a step of the search: whatever outcome is held before it, `next` of that is held after it
abbrev pub Steps : (Outcome → Outcome) → Tally → List Float → Tally → List Float → Type 0
Steps next t room t' room' = (o : Outcome) (lent : List Float) → Holds o lent t room → Holds (next o) lent t' room'
