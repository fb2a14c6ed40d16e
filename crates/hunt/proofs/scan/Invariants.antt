-- `scan` visits the cells in order. The invariant: the tally and the room are those of the first i cells.
use mathlib.Core.Path.{◌≡◌}
use Prim.Native.Nat.{◌≤◌, ◌-◌}
use lib.ListN.{length}
use Rattle.hits.specs.Holds.{Holds}
use Rattle.hunt_bracket.specs.Frame.{value}
use Rattle.hunt.specs.Cells.{sample}
use Rattle.hunt.specs.Visits.{scanned}
use Rattle.hunt.proofs.scan.Given as goal

abbrev pub invariant-loop-i : goal.invariant-loop-i
invariant-loop-i l =
    (l.i ≤ l.n)
    × (length l.room ≡ length l.initial.room)
    × (l.lo ≡ sample l.start l.step l.i)
    × (l.g_lo ≡ value l.f l.lo)
    × Holds (scanned l.f l.start l.step l.closing l.i) l.initial.room l.t l.room

abbrev pub decreases-loop-i : goal.decreases-loop-i
decreases-loop-i l = l.n - l.i
