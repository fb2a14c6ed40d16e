-- `calls_crossings::crossings::closed` meets its contract.
use mathlib.Core.Path.{refl}
use Rattle.hits.proofs.Held.{no_counts}
use Rattle.calls_crossings.proofs.crossings.closed.Goals as goal

pub returns : goal.returns
returns c =
    record { counts = rw (c.write.ensures.0, no_counts c.default.result c.default.ensures) refl; hits = c.write.ensures.1 }
