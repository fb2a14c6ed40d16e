-- `calls_crossings::crossings::intersect_segment_arc` meets its contract.
use mathlib.Core.Path.{refl, sym}
use Rattle.checks.proofs.Answered.{told_refused}
use Rattle.calls_crossings.proofs.Rooms.{crossed_done, crossed_refused, room_fits, two_fit}
use Rattle.calls_crossings.proofs.crossings.intersect_segment_arc.Goals as goal

pub returns-in_err-segment_arc_refusal : goal.returns-in_err-segment_arc_refusal
returns-in_err-segment_arc_refusal c = rw (told_refused _ _ _ c.from_residual.ensures.1) (crossed_refused _ _ _ _ _ c.in_err-segment_arc_refusal.ensures)

pub write-requires : goal.write-requires
write-requires c = two_fit c.intersect_segment_arc.result _ (room_fits _ _ _ (sym c.in_ok-segment_arc_refusal.ensures))

pub returns : goal.returns
returns c =
    rw (c.write.ensures.0, c.write.ensures.1, c.intersect_segment_arc.ensures)
    (crossed_done _ _ _ _ _ (sym c.in_ok-segment_arc_refusal.ensures) refl)
