-- `export_crossings::closed::arcs_hit` meets its contract.
use mathlib.Core.Path.{refl}
use mathlib.Core.List.{[], ◌∷◌}
use borrow.Author.Tests.{lt-ltb, le-ltb}
use native.Mathlib.Nat.{le_trans}
use Rattle.rooms.proofs.Laws.{stored-over}
use Rattle.export_crossings.proofs.Rooms.{part-short}
use Rattle.export_crossings.proofs.closed.arcs_hit.Goals as goal

pub returns-then-out-lt-HIT : goal.returns-then-out-lt-HIT
returns-then-out-lt-HIT c = record { refusal = rw (lt-ltb _ _ c.if-out-lt-HIT.true) refl; values = refl; counts = refl }

pub returns-then-counts-lt1 : goal.returns-then-counts-lt1
returns-then-counts-lt1 c = record { refusal = rw (le-ltb _ _ c.if-out-lt-HIT.false, lt-ltb _ _ c.if-counts-lt1.true) refl; values = refl; counts = refl }

pub place-requires : goal.place-requires
place-requires c =
    let z = c.args in
    rw c.hit-part.ensures (le_trans (part-short z.room.now z.count z.i) c.if-out-lt-HIT.false)

pub returns : goal.returns
returns c =
    let part = c.hit-part.ensures in
    record {
      refusal = rw (le-ltb _ _ c.if-out-lt-HIT.false, le-ltb _ _ c.if-counts-lt1.false) refl;
      values = rw (← part) c.place.ensures;
      counts = rw (← part) (stored-over (_ ∷ []) c.args.counts.now c.if-counts-lt1.false);
    }
