-- `Search::thirds` takes 40 turns.
use Rattle.std.proofs.Common.{◌≡◌, ◌≤◌}
use Rattle.nearest.specs.Thirds.{thirds}
use Rattle.nearest.proofs.search.Search.thirds.Given as goal

abbrev pub invariant-loop : goal.invariant-loop
invariant-loop l = (l.counter ≤ 40) × (l.s ≡ thirds l.self.a l.self.p l.counter l.initial.s)
