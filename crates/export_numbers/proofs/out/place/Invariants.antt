-- `place` places one value after the other. The invariant: what is left to place from i on.
use mathlib.Core.Path.{◌≡◌}
use lib.ListN.{drop}
use Rattle.rooms.proofs.Laws.{stored}
use Rattle.export_numbers.proofs.out.place.Given as goal

abbrev pub invariant-loop-i : goal.invariant-loop-i
invariant-loop-i g l = stored l.values 0 l.initial.out ≡ stored (drop l.i l.values) l.i l.out
