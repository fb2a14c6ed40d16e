-- DEMAND 3 UP TO THE CALL, in the words of specs/NeverLoses.antt: of two answers of `intersect_arcs` that are no refusals, where an ellipse takes part. That the angles are within their
-- limits and that the depths are at most 3 is had from the answers.
use mathlib.Core.Path.{◌≡◌}
use mathlib.Core.Bool.{true, false, ◌||◌}
use Prim.Native.Nat.{ℕ, ◌≤◌}
use native.Mathlib.Omega.{arith}
use Rattle.curves.specs.declared.Arc.{Arc}
use Rattle.hits.specs.declared.Tally.{Tally}
use Rattle.hunt_refine.specs.Levels.{ends}
use Rattle.hunt_refine.specs.Held.{StartHeld}
use Rattle.hunt_refine.specs.Promise.{Worked, Contained, EachKept}
use Rattle.hunt_refine.proofs.Refinement.{never_fewer, finer_never_loses, bracket-stays}
use Rattle.calls_refine.specs.Answered.{Answered}
use Rattle.calls_refine.specs.NeverLoses.{BothWorked, NeverLoses}
use Rattle.calls_refine.proofs.Told.{answered_depth, answered_limited, answered-brackets}

-- ---- one answer
pub answer_keeps : (a b : Arc) (k : ℕ) (t : Tally) → Answered a b k t → StartHeld a → Worked a b k → EachKept a b k
answer_keeps a b k t r held w = bracket-stays a b (answered_limited a b k t r) held k (omega (arith, answered_depth a b k t r)) w

-- ---- two answers: of the premise the finer hunt's part is enough
module _ (a b : Arc) (k k' : ℕ) (t t' : Tally) (r : Answered a b k t) (r' : Answered a b k' t') (p : k ≤ k') (w : ends a b ≡ false → Worked a b k') where
  pub answers_contained : StartHeld a → Contained a b k k'
  answers_contained held = finer_never_loses a b (answered_limited a b k t r) k k' p (omega (arith, answered_depth a b k' t' r')) w held

  -- nothing is asked of a's start
  pub answers_no_fewer : a.is_ellipse || b.is_ellipse ≡ true → t.brackets ≤ t'.brackets
  answers_no_fewer e =
      rw (answered-brackets a b k t r e, answered-brackets a b k' t' r' e)
      (never_fewer a b (answered_limited a b k t r) k k' p (omega (arith, answered_depth a b k' t' r')) w)

-- THE DEMAND, whole
pub finer_answer_never_loses : (a b : Arc) (k k' : ℕ) (t t' : Tally) → a.is_ellipse || b.is_ellipse ≡ true → k ≤ k' → Answered a b k t → Answered a b k' t'
    → StartHeld a → BothWorked a b k k' → NeverLoses a b k k' t t'
finer_answer_never_loses a b k k' t t' e p r r' held w =
    record {
      contained = answers_contained a b k k' t t' r r' p w.finer held;
      no_fewer = answers_no_fewer a b k k' t t' r r' p w.finer e;
      coarser_kept = λ (n : ends a b ≡ false). answer_keeps a b k t r held (w.coarser n);
      finer_kept = λ (n : ends a b ≡ false). answer_keeps a b k' t' r' held (w.finer n);
    }
