-- From what the library tells to the hits and counts that an export gives.
use mathlib.Core.Path.{◌≡◌, refl, sym, ◌∙◌}
use mathlib.Core.Bool.{Bool, true, false, cond, ◌&&◌}
use mathlib.Core.List.{List, []}
use Prim.Native.Nat.{ℕ, ◌+◌, ◌*◌, ◌≤◌, ◌<◌}
use native.Mathlib.Omega.{arith}
use borrow.Author.Tests.{lt-ltb, le-ltb}
use lib.Dec.{eqb, ltb, leb}
use lib.ListN.{length, take, drop, length-take}
use lib.Ieee.{Float}
use Rattle.rooms.specs.Laid.{over}
use Rattle.hits.specs.Hit.{hit_size, hit_part}
use Rattle.checks.specs.Answer.{Answer, answered}
use Rattle.checks.specs.Refusal.{accepted, room_too_short, or_later}
use Rattle.hits.specs.Need.{lengths}
use Rattle.calls_crossings.specs.Crossed.{HitsAnswer, Crosses}
use Rattle.export_crossings.specs.Exported.{HitsOut, HitOut}

-- ---- hits, where the counts fit
module _ (q : HitsAnswer) {room after : List Float} {told : Answer} {lent lent' : List ℕ} where
  pub hits_out : Crosses q room told after → length q.counts ≤ length lent → lent' ≡ over told.counts lent → HitsOut q room lent told.refusal after lent'
  unfolding answered
  hits_out c fit e = go (eqb (q.refusal (lengths room)) accepted) refl
    where
      go : (b : Bool) → eqb (q.refusal (lengths room)) accepted ≡ b → HitsOut q room lent told.refusal after lent'
      go true i = record {
        refusal = rw (c.answer, i, le-ltb _ _ fit) refl;
        hits = rw (c.room, c.answer, i) refl;
        counts = rw (e, c.answer, i) refl;
      }
      go false i = record {
        refusal = rw (c.answer, i) refl;
        hits = rw (c.room, c.answer, i, i) refl;
        counts = rw (e, c.answer, i, i) refl;
      }

-- ---- hits, where the counts do not fit: the call's own refusal, and the room's where it has none

later_short : (n : ℕ) → eqb (or_later n room_too_short) accepted ≡ false
later_short n = go (eqb n accepted) refl
  where
    go : (b : Bool) → eqb n accepted ≡ b → eqb (cond b room_too_short n) accepted ≡ false
    go true i = refl
    go false i = i

module _ (q : HitsAnswer) {room : List Float} {lent : List ℕ} {number : ℕ} where
  pub hits_short : number ≡ or_later (q.refusal (lengths room)) room_too_short → length lent < length q.counts → HitsOut q room lent number room lent
  hits_short is short = record {
    refusal = rw (lt-ltb _ _ short) is;
    hits = rw (is, later_short (q.refusal (lengths room))) refl;
    counts = rw (is, later_short (q.refusal (lengths room))) refl;
  }

-- ---- one hit

pub part-short : (room : List Float) (hits i : ℕ) → length (hit_part room hits i) ≤ hit_size
unfolding hit_part
part-short room hits i = go (ltb i hits && leb (i * hit_size + hit_size) (length room))
  where
    go : (b : Bool) → length (cond b (take hit_size (drop (i * hit_size) room)) []) ≤ hit_size
    go true = rw (length-take hit_size (drop (i * hit_size) room)) (omega arith)
    go false = omega arith

-- ---- NO SECOND OUTCOME of an export with hits
module _ {q : HitsAnswer} {room : List Float} {lent : List ℕ} where
  pub hits_out_unique : (number number' : ℕ) (after after' : List Float) (told told' : List ℕ) → HitsOut q room lent number after told → HitsOut q room lent number' after' told'
      → (number ≡ number') × (after ≡ after') × (told ≡ told')
  hits_out_unique number number' after after' told told' p q =
      let same : number ≡ number' = p.refusal ∙ sym q.refusal in
      (same, p.hits ∙ sym (rw same q.hits), p.counts ∙ sym (rw same q.counts))

module _ {part out : List Float} {lent : List ℕ} where
  pub hit_out_unique : (number number' : ℕ) (after after' : List Float) (told told' : List ℕ) → HitOut part out lent number after told → HitOut part out lent number' after' told'
      → (number ≡ number') × (after ≡ after') × (told ≡ told')
  hit_out_unique number number' after after' told told' p q =
      let same : number ≡ number' = p.refusal ∙ sym q.refusal in
      (same, p.values ∙ sym (rw same q.values), p.counts ∙ sym (rw same q.counts))
