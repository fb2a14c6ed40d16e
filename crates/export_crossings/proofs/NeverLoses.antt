-- DEMAND 3 AS C HAS IT: two calls of `arcs_intersect_arcs` that give 0 are two answers of the library, with the counts that C reads.
use mathlib.Core.Path.{◌≡◌, refl, sym}
use mathlib.Core.Bool.{Bool, true, false, cond, ◌||◌}
use mathlib.Core.List.{List}
use Prim.Native.Nat.{ℕ, ◌≤◌}
use borrow.Author.Tests.{eqb-true}
use lib.Dec.{eqb}
use lib.Ieee.{Float}
use Rattle.curves.specs.declared.Arc.{Arc}
use Rattle.hunt_refine.specs.Held.{StartHeld}
use Rattle.checks.specs.Refusal.{accepted, or_later}
use Rattle.checks.proofs.Outcomes.{tallied}
use Rattle.calls_crossings.specs.Answers.{arcs_answer}
use Rattle.calls_crossings.proofs.Rooms.{crossed_done}
use Rattle.calls_refine.specs.Answered.{Answered}
use Rattle.calls_refine.specs.NeverLoses.{BothWorked, NeverLoses}
use Rattle.calls_refine.proofs.NeverLoses.{finer_answer_never_loses}
use Rattle.export_crossings.specs.Exported.{HitsOut}

-- where a later refusal would count and none is given, there is no earlier one
none_earlier : (n later : ℕ) → accepted ≡ or_later n later → n ≡ accepted
none_earlier n later = go (eqb n accepted) refl
  where
    go : (c : Bool) → eqb n accepted ≡ c → accepted ≡ cond c later n → n ≡ accepted
    go true i e = eqb-true n accepted i
    go false i e = sym e

export_answered : (a b : Arc) (k : ℕ) {room after : List Float} {lent counts : List ℕ} → HitsOut (arcs_answer a b k) room lent accepted after counts → Answered a b k (tallied counts)
export_answered a b k {room} {after} {lent} {counts} h =
    record { before = room; after = after; contract = rw h.counts (crossed_done _ _ _ _ _ (none_earlier _ _ h.refusal) h.hits) }

pub finer_export_never_loses : (a b : Arc) (k k' : ℕ) {room room' after after' : List Float} {lent lent' counts counts' : List ℕ} → a.is_ellipse || b.is_ellipse ≡ true → k ≤ k'
    → HitsOut (arcs_answer a b k) room lent accepted after counts → HitsOut (arcs_answer a b k') room' lent' accepted after' counts'
    → StartHeld a → BothWorked a b k k' → NeverLoses a b k k' (tallied counts) (tallied counts')
finer_export_never_loses a b k k' {counts = counts} {counts' = counts'} e p h h' held w =
    finer_answer_never_loses a b k k' (tallied counts) (tallied counts') e p (export_answered a b k h) (export_answered a b k' h') held w
