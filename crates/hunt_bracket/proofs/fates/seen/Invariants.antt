-- `fates::seen` looks at one hit after the other, the newest first. The invariant: none of the hits from i on is near t.
use Rattle.std.proofs.Common.{◌≡◌, false, map, drop}
use Rattle.hits.specs.Hit.{hit_from}
use Rattle.hunt_bracket.specs.Fate.{double}
use Rattle.hunt_bracket.proofs.fates.seen.Given as goal

abbrev pub invariant-loop-i : goal.invariant-loop-i
invariant-loop-i l = (l.found ≡ false) × (double l.t (drop l.i (map hit_from l.hits)) ≡ false)
