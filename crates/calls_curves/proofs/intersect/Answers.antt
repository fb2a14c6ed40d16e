-- `calls_curves::intersect` meets its contract.
use mathlib.Core.Path.{refl, sym}
use Rattle.checks.proofs.Answered.{told_refused}
use Rattle.calls_crossings.proofs.Rooms.{crossed_done, crossed_refused, pair_fits}
use Rattle.calls_curves.proofs.intersect.Goals as goal

pub returns-in_err-intersect_refusal : goal.returns-in_err-intersect_refusal
returns-in_err-intersect_refusal c = rw (told_refused _ _ _ c.from_residual.ensures.1) (crossed_refused _ _ _ _ _ c.in_err-intersect_refusal.ensures)

pub cross-requires : goal.cross-requires
cross-requires c = pair_fits _ _ _ _ (sym c.in_ok-intersect_refusal.ensures)

pub returns : goal.returns
returns c = rw (c.cross.ensures.counts, c.cross.ensures.hits) (crossed_done _ _ _ _ _ (sym c.in_ok-intersect_refusal.ensures) refl)
