-- NO SECOND OUTCOME of a call with a room.
use mathlib.Core.Path.{◌≡◌}
use mathlib.Core.List.{List}
use Prim.Native.Nat.{ℕ}
use lib.Ieee.{Float}
use Rattle.std.specs.Prelude.{Result}
use Rattle.hits.specs.declared.CurveHit.{CurveHit}
use Rattle.hits.specs.declared.Tally.{Tally}
use Rattle.checks.specs.declared.Refusal.{Refusal}
use Rattle.checks.specs.Answer.{found_told, hunted_told}
use Rattle.checks.proofs.Outcomes.{found_told_unique, hunted_told_unique}
use Rattle.calls_crossings.specs.Crossed.{Crossed}
use Rattle.calls_crossings.proofs.Rooms.{crossed_unique}

-- the answer and the room afterwards
module _ (n : ℕ) (hs : List CurveHit) (counts : List ℕ) (before after after' : List Float) where
  pub found_unique : (r s : Result ℕ Refusal) → Crossed n hs counts before (found_told r) after → Crossed n hs counts before (found_told s) after' → (r ≡ s) × (after ≡ after')
  found_unique r s p q =
      let (t, e) = crossed_unique n hs counts before (found_told r) (found_told s) after after' p q in
      (found_told_unique r s t, e)

  pub hunted_unique : (r s : Result Tally Refusal) → Crossed n hs counts before (hunted_told r) after → Crossed n hs counts before (hunted_told s) after' → (r ≡ s) × (after ≡ after')
  hunted_unique r s p q =
      let (t, e) = crossed_unique n hs counts before (hunted_told r) (hunted_told s) after after' p q in
      (hunted_told_unique r s t, e)
