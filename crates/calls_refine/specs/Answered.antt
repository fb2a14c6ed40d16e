-- 01, 'What a caller may conclude': "Each public call's contract determines the result and all numbers in the room afterwards, refusals too". An answer of `intersect_arcs` that is no
-- refusal, by that call's own contract.
use Rattle.std.specs.Prelude.{ℕ, List, Float, Ok}
use Rattle.curves.specs.declared.Arc.{Arc}
use Rattle.hits.specs.declared.Tally.{Tally}
use Rattle.checks.specs.Answer.{hunted_told}
use Rattle.calls_crossings.specs.Crossed.{Crosses}
use Rattle.calls_crossings.specs.Answers.{arcs_answer}

-- the room before and after, and what the contract says of an answer with the counts t
pub record Answered (a b : Arc) (depth : ℕ) (t : Tally) : Type 0 where
  pub before : List Float
  pub after : List Float
  pub contract : Crosses (arcs_answer a b depth) before (hunted_told (Ok t)) after
