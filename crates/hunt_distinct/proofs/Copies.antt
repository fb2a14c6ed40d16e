-- NO BUILD THAT COPIES meets the contract: neither that of `hunt::hunt` nor that of the public `intersect_arcs`.
use mathlib.Core.Path.{◌≡◌, refl, sym, ap, ◌∙◌}
use mathlib.Core.List.{List, [], ◌∷◌}
use Prim.Native.Nat.{ℕ, ◌≤◌, ◌<◌}
use borrow.Author.Tests.{le-ltb}
use lib.ListN.{length, get_or}
use lib.Seq.{drop-cons}
use lib.Ieee.{Float, lt, of_bits}
use Rattle.laws.specs.Size.{abs}
use Rattle.hits.specs.declared.CurveHit.{CurveHit}
use Rattle.hits.specs.declared.Tally.{Tally}
use Rattle.hits.specs.Hit.{hit_at, written}
use Rattle.hits.specs.Need.{need, lengths}
use Rattle.hits.specs.Holds.{Holds}
use Rattle.hits.proofs.Rooms.{hits_step}
use Rattle.hits.proofs.Needs.{not_short}
use Rattle.hunt.specs.Cells.{cells}
use Rattle.hunt.specs.Hunt.{hunted}
use Rattle.checks.specs.Given.{tested}
use Rattle.checks.specs.Refusal.{accepted, refusal}
use Rattle.checks.specs.Answer.{Answer, answered}
use Rattle.calls_crossings.specs.Crossed.{Crosses}
use Rattle.calls_crossings.specs.Need.{pair_hits}
use Rattle.calls_crossings.specs.Pairs.{pair_outcome}
use Rattle.calls_crossings.specs.Answers.{arcs_answer}
use Rattle.hunt_distinct.specs.Gasket.{hole, flange}
use Rattle.hunt_distinct.specs.Distinct.{HitNumber, of, nowhere, Distinct, Copied}
use Rattle.hunt_distinct.proofs.Gasket.{gasket_distinct}

-- hit i of the room is hit i of the list
written_at : (hs : List CurveHit) (lent : List Float) (i : ℕ) → i < length hs → hit_at (written hs lent) i ≡ get_or hs i nowhere
written_at hs lent i l = ap (head_of nowhere) (sym (hits_step hs lent i l) ∙ drop-cons hs i nowhere l)
  where
    head_of : CurveHit → List CurveHit → CurveHit
    head_of h [] = h
    head_of h (g ∷ gs) = g

-- hits of which two are distinct, written to any room, are not copied in any number
pub distinct_not_copied : (hs : List CurveHit) (lent : List Float) → Distinct hs → (n : HitNumber) → Copied n (length hs) (written hs lent) → ⊥
distinct_not_copied hs lent d n c =
    d.differ n (ap (of n) (sym (written_at hs lent d.i d.first)) ∙ c d.i d.j d.first d.second ∙ ap (of n) (written_at hs lent d.j d.second))

module _ (k : ℕ) (m : k ≤ 3) where
  -- THE HUNT: whatever room is lent
  pub hunt_not_copied : (lent room : List Float) (t : Tally) → Holds (hunted hole flange k) lent t room → (n : HitNumber) → Copied n t.hits room → ⊥
  hunt_not_copied lent room t h n = rw (h.counts, h.hits) (distinct_not_copied (hunted hole flange k).hits lent (gasket_distinct k m) n)

  -- the pair is taken where the room is as long as the need
  taken : (before : List Float) → need (cells k) ≤ length before → (arcs_answer hole flange k).refusal (lengths before) ≡ accepted
  unfolding pair_hits tested refusal lt abs of_bits
  taken before fit = rw (le-ltb 3 k m, not_short (cells k) (lengths before) fit) refl

  -- THE CALL: the hits that it tells are the first count
  pub call_not_copied : (before after : List Float) (told : Answer) → need (cells k) ≤ length before → Crosses (arcs_answer hole flange k) before told after
      → (n : HitNumber) → Copied n (get_or told.counts 0 0) after → ⊥
  unfolding pair_outcome answered
  call_not_copied before after told fit c n =
      let is = taken before fit in
      rw (c.answer, c.room, is) (distinct_not_copied (hunted hole flange k).hits before (gasket_distinct k m) n)
