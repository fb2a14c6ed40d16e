-- `calls_crossings::crossings::intersect_arcs` meets its contract.
use mathlib.Core.Path.{refl, sym}
use Rattle.checks.proofs.Answered.{told_refused}
use Rattle.calls_crossings.proofs.Rooms.{crossed_done, crossed_refused, pair_fits}
use Rattle.calls_crossings.proofs.crossings.intersect_arcs.Goals as goal

pub returns-in_err-arcs_refusal : goal.returns-in_err-arcs_refusal
returns-in_err-arcs_refusal c = rw (told_refused _ _ _ c.from_residual.ensures.1) (crossed_refused _ _ _ _ _ c.in_err-arcs_refusal.ensures)

pub pair-requires : goal.pair-requires
pair-requires c = pair_fits _ _ _ _ (sym c.in_ok-arcs_refusal.ensures)

pub returns : goal.returns
returns c = rw (c.pair.ensures.counts, c.pair.ensures.hits) (crossed_done _ _ _ _ _ (sym c.in_ok-arcs_refusal.ensures) refl)
