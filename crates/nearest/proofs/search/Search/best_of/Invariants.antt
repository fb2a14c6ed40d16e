-- `Search::best_of` looks at one sample after the other.
use Rattle.std.proofs.Common.{◌≡◌}
use Rattle.nearest.specs.Samples.{sampled}
use Rattle.nearest.proofs.search.Search.best_of.Given as goal

abbrev pub invariant-loop-i : goal.invariant-loop-i
invariant-loop-i l = l.best ≡ sampled l.self.a l.self.p l.span l.n l.i
