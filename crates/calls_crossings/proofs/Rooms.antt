-- The promise of a call with a room: how code comes to it, and that it has one outcome.
use mathlib.Core.Path.{◌≡◌, refl, sym, ◌∙◌}
use mathlib.Core.Bool.{true, false, ◌||◌}
use mathlib.Core.List.{List, []}
use Prim.Native.Nat.{ℕ, ◌/◌, ◌≤◌}
use native.Mathlib.Nat.{le_trans}
use native.Mathlib.Omega.{arith}
use borrow.Author.Tests.{ne_eqb}
use lib.ListN.{length}
use lib.Ieee.{Float}
use Rattle.std.specs.Prelude.{Option, Some, None}
use Rattle.curves.specs.declared.Arc.{Arc}
use Rattle.hits.specs.declared.CurveHit.{CurveHit}
use Rattle.hits.specs.declared.UpToTwo.{UpToTwo}
use Rattle.hits.specs.declared.UpToTwo.TheVariants.{Zero, One, Two}
use Rattle.hits.specs.declared.Lengths.{Lengths}
use Rattle.hits.specs.Hit.{hit_size, written}
use Rattle.hits.specs.Need.{short}
use Rattle.hits.proofs.Needs.{long_enough}
use Rattle.hits.specs.Listed.{listed, one}
use Rattle.crossing.specs.Circles.{intersect_circle_circle}
use Rattle.hunt.specs.Cells.{cells}
use Rattle.hunt.specs.Hunt.{hunted}
use Rattle.checks.specs.Given.{Given, tested}
use Rattle.checks.specs.declared.Refusal.{Refusal}
use Rattle.checks.specs.Refusal.{accepted, number_of, deepest, deep, unfaulted, refusal_of}
use Rattle.checks.specs.Answer.{Answer, answered, refused}
use Rattle.checks.proofs.Outcomes.{number_of_refuses}
use Rattle.checks.proofs.Tested.{unrefused, not-deep}
use Rattle.calls_crossings.specs.Crossed.{Crossed}
use Rattle.calls_crossings.specs.Need.{segments_hits, closed_hits, pair_hits}
use Rattle.hits.specs.Outcome.{closed}
use Rattle.calls_crossings.specs.Pairs.{pair_outcome}

-- ---- a call that is not refused, and one that is

pub crossed_done : (n : ℕ) (hs : List CurveHit) (counts : List ℕ) (before after : List Float) → n ≡ accepted → after ≡ written hs before
    → Crossed n hs counts before (record { refusal = accepted; numbers = []; counts = counts }) after
unfolding answered
crossed_done n hs counts before after e r = record { answer = rw e refl; room = rw e r }

pub crossed-refused : (n : ℕ) (hs : List CurveHit) (counts : List ℕ) (before : List Float) → (n ≡ accepted → ⊥) → Crossed n hs counts before (refused n) before
unfolding answered
crossed-refused n hs counts before h = record { answer = rw (ne_eqb n accepted h) refl; room = rw (ne_eqb n accepted h) refl }

pub crossed_refused : (r : Refusal) (n : ℕ) (hs : List CurveHit) (counts : List ℕ) (before : List Float) → number_of r ≡ n
    → Crossed n hs counts before (refused (number_of r)) before
crossed_refused r n hs counts before e = rw (← e) (crossed-refused (number_of r) hs counts before (number_of_refuses r))

-- NO SECOND OUTCOME: what is told and the room afterwards are fixed
pub crossed_unique : (n : ℕ) (hs : List CurveHit) (counts : List ℕ) (before : List Float) (told told' : Answer) (after after' : List Float)
    → Crossed n hs counts before told after → Crossed n hs counts before told' after' → (told ≡ told') × (after ≡ after')
crossed_unique n hs counts before told told' after after' p q = (p.answer ∙ sym q.answer, p.room ∙ sym q.room)

-- ---- a call that is not refused has its depth and its room in order

module _ (gs : List Given) (most : ℕ) (lent : Lengths) where
  pub room_fits : refusal_of gs false (short most lent) ≡ accepted → most ≤ lent.room / hit_size
  room_fits e = long_enough most lent (unrefused (tested unfaulted gs) false (short most lent) e).long

  pub pair_fits : (depth : ℕ) → refusal_of gs (deep depth) (short most lent) ≡ accepted → (depth ≤ deepest) × (most ≤ lent.room / hit_size)
  pair_fits depth e =
      let passed = unrefused (tested unfaulted gs) (deep depth) (short most lent) e in
      (not-deep depth passed.shallow, long_enough most lent passed.long)

-- ---- the closed forms have two hits at most, and two segments one

pub listed-two : (c : UpToTwo CurveHit) → length (listed c) ≤ closed_hits
listed-two Zero = omega arith
listed-two (One h) = omega arith
listed-two (Two h g) = omega arith

pub listed-one : (c : Option CurveHit) → length (listed (one c)) ≤ segments_hits
listed-one (Some h) = omega arith
listed-one None = omega arith

pub two_fit : (c : UpToTwo CurveHit) (n : ℕ) → closed_hits ≤ n → length (listed c) ≤ n
two_fit c n h = le_trans (listed-two c) h

pub one-fits : (c : Option CurveHit) (n : ℕ) → segments_hits ≤ n → length (listed (one c)) ≤ n
one-fits c n h = le_trans (listed-one c) h

-- ---- a pair of arcs

module _ (a b : Arc) (depth : ℕ) where
  pub hits_hunted : a.is_ellipse || b.is_ellipse ≡ true → pair_hits a b depth ≡ cells depth
  unfolding pair_hits
  hits_hunted e = rw e refl

  pub hits_closed : a.is_ellipse || b.is_ellipse ≡ false → pair_hits a b depth ≡ closed_hits
  unfolding pair_hits
  hits_closed e = rw e refl

  pub pair_hunted : a.is_ellipse || b.is_ellipse ≡ true → pair_outcome a b depth ≡ hunted a b depth
  unfolding pair_outcome
  pair_hunted e = rw e refl

  pub pair_closed : a.is_ellipse || b.is_ellipse ≡ false → pair_outcome a b depth ≡ closed (listed (intersect_circle_circle a b))
  unfolding pair_outcome
  pair_closed e = rw e refl
