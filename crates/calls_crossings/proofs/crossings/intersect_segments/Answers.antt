-- `calls_crossings::crossings::intersect_segments` meets its contract.
use mathlib.Core.Path.{refl, sym}
use Rattle.checks.proofs.Answered.{told_refused}
use Rattle.calls_crossings.proofs.Rooms.{crossed_done, crossed_refused, room_fits, one-fits}
use Rattle.calls_crossings.proofs.crossings.intersect_segments.Goals as goal

pub returns-in_err-segments_refusal : goal.returns-in_err-segments_refusal
returns-in_err-segments_refusal c = rw (told_refused _ _ _ c.from_residual.ensures.1) (crossed_refused _ _ _ _ _ c.in_err-segments_refusal.ensures)

pub write-requires : goal.write-requires
write-requires c = rw c.one-c.ensures (one-fits c.intersect_segments.result _ (room_fits _ _ _ (sym c.in_ok-segments_refusal.ensures)))

pub returns : goal.returns
returns c =
    rw (c.write.ensures.0, c.write.ensures.1, c.one-c.ensures, c.intersect_segments.ensures)
    (crossed_done _ _ _ _ _ (sym c.in_ok-segments_refusal.ensures) refl)
