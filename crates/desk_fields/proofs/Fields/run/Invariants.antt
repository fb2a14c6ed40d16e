-- `run` takes one digit at a turn: the run is that of the digits that are left, behind the value so far.
use Rattle.std.proofs.Common.{◌≡◌, ℕ, List, ◌≤◌, length}
use Rattle.desk_fields.specs.Field.{run_of, run_after}
use Rattle.desk_fields.proofs.Fields.run.Given as goal

abbrev pub invariant-loop-b : goal.invariant-loop-b
invariant-loop-b l = record {
  small : l.number ≤ 65;
  reading : ◌≡◌ {A = ℕ × List ℕ} (run_of l.initial.self.rest.now) (run_after l.number l.self.rest.now);
}

abbrev pub decreases-loop-b : goal.decreases-loop-b
decreases-loop-b l = length l.self.rest.now
