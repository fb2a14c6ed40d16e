-- `Search::newton` takes at most 8 steps. The invariant: the steps that are left lead from t to the same angle.
use Rattle.std.proofs.Common.{◌≡◌, ◌≤◌, ◌-◌}
use Rattle.nearest.specs.Newton.{newton}
use Rattle.nearest.proofs.search.Search.newton.Given as goal

abbrev pub invariant-loop : goal.invariant-loop
invariant-loop l =
    (l.counter ≤ 8)
    × (newton l.self.a l.self.p l.within.lo l.within.hi 8 l.from ≡ newton l.self.a l.self.p l.within.lo l.within.hi (8 - l.counter) l.t)
