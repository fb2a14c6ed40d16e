-- What it tells that `intersect_arcs` does not refuse: the depth is at most 3, a's angles are within their limits, and the brackets of the answer are the hunt's.
use mathlib.Core.Path.{◌≡◌, refl, ap, ◌∙◌}
use mathlib.Core.Bool.{true, ◌||◌}
use mathlib.Core.List.{List, ◌++◌, Memᴰ}
use Prim.Native.Nat.{ℕ, ◌≤◌}
use Rattle.curves.specs.declared.Arc.{Arc}
use Rattle.hits.specs.declared.Lengths.{Lengths}
use Rattle.hits.specs.declared.Tally.{Tally}
use Rattle.hits.specs.Need.{lengths, short}
use Rattle.hits.specs.Outcome.{Outcome, tally}
use Rattle.hunt.specs.Hunt.{hunted}
use Rattle.hunt_refine.specs.Limits.{Limited}
use Rattle.checks.specs.Given.{Given, angle, arc_numbers, tested}
use Rattle.checks.specs.Refusal.{accepted, deepest, deep, unfaulted}
use Rattle.checks.proofs.Tested.{unrefused, not-deep}
use Rattle.checks.proofs.Within.{given_within}
use Rattle.calls_crossings.specs.Answers.{arcs_answer}
use Rattle.calls_crossings.specs.Need.{pair_hits}
use Rattle.calls_crossings.specs.Pairs.{pair_outcome}
use Rattle.calls_crossings.proofs.Rooms.{pair_hunted}
use Rattle.calls_crossings.proofs.Told.{crossed-counted}
use Rattle.calls_refine.specs.Answered.{Answered}

-- the numbers that the call tests; a's start is the sixth and its end the seventh
abbrev numbers : Arc → Arc → List Given
numbers a b = arc_numbers a ++ arc_numbers b

start_given : (a b : Arc) → Memᴰ (angle a.start) (numbers a b)
start_given a b = Memᴰ.tail (Memᴰ.tail (Memᴰ.tail (Memᴰ.tail (Memᴰ.tail (Memᴰ.head refl)))))

end_given : (a b : Arc) → Memᴰ (angle a.end) (numbers a b)
end_given a b = Memᴰ.tail (Memᴰ.tail (Memᴰ.tail (Memᴰ.tail (Memᴰ.tail (Memᴰ.tail (Memᴰ.head refl))))))

-- ---- the refusal is none, whatever room is lent
module _ (a b : Arc) (k : ℕ) (lent : Lengths) (none : (arcs_answer a b k).refusal lent ≡ accepted) where
  pub unrefused_depth : k ≤ deepest
  unrefused_depth = not-deep k (unrefused (tested unfaulted (numbers a b)) (deep k) (short (pair_hits a b k) lent) none).shallow

  -- THE LIMITS, by the call's own test of its numbers
  pub unrefused_limited : Limited a
  unrefused_limited =
      let within = given_within (numbers a b) (deep k) (short (pair_hits a b k) lent) none in
      record { start = within (angle a.start) (start_given a b); end = within (angle a.end) (end_given a b) }

-- ---- an answer with counts
module _ (a b : Arc) (k : ℕ) (t : Tally) (r : Answered a b k t) where
  abbrev refusal : ℕ
  refusal = (arcs_answer a b k).refusal (lengths r.before)

  told : (refusal ≡ accepted) × (t ≡ tally (pair_outcome a b k))
  told =
      let (none, is, room) = crossed-counted refusal (pair_outcome a b k).hits (tally (pair_outcome a b k)) r.before r.after t r.contract in
      (none, is)

  pub answered_depth : k ≤ deepest
  answered_depth = unrefused_depth a b k (lengths r.before) told.0

  pub answered_limited : Limited a
  answered_limited = unrefused_limited a b k (lengths r.before) told.0

  pub answered-brackets : a.is_ellipse || b.is_ellipse ≡ true → t.brackets ≡ (hunted a b k).brackets
  answered-brackets e = ap (λ (u : Tally). u.brackets) told.1 ∙ ap (λ (o : Outcome). o.brackets) (pair_hunted a b k e)
