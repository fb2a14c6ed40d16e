use Rattle.std.proofs.Common.{◌≡◌, ◌<◌, ◌≤◌, ℕ, get_or}
use Rattle.replay_rows.specs.Agree.{unwritten}
use Rattle.replay_rows.specs.Told.{told}
use Rattle.replay_rows.proofs.answer.Answer.new.Given as goal

-- each word so far is told, and the others are as they stood before
abbrev pub invariant-loop-i : goal.invariant-loop-i
invariant-loop-i l =
    ((k : ℕ) → k < l.i → get_or l.words k 0 ≡ told l.counts l.numbers k) × ((k : ℕ) → l.i ≤ k → k < 128 → get_or l.words k 0 ≡ unwritten)
