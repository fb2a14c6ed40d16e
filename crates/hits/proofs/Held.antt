-- What is held of an outcome: the room stands for its hits, and nothing else holds it.
use mathlib.Core.Path.{◌≡◌, refl, sym, ap, ◌∙◌}
use mathlib.Core.List.{List, [], ◌∷◌, ◌++◌, append-nil}
use Prim.Native.Nat.{ℕ, ◌+◌}
use native.Mathlib.Nat.{add-zero}
use lib.ListN.{length-append}
use lib.Ieee.{Float}
use Rattle.hits.specs.declared.CurveHit.{CurveHit}
use Rattle.hits.specs.declared.Tally.{Tally}
use Rattle.hits.specs.Hit.{put}
use Rattle.hits.specs.Outcome.{Outcome, tally, none}
use Rattle.hits.specs.Stands.{Stands}
use Rattle.hits.specs.Holds.{Holds}
use Rattle.hits.proofs.Rooms.{written_none, put_written}

pub nothing_added : {hs : List CurveHit} {lent : List Float} {n : ℕ} {room : List Float} → Stands hs lent n room → Stands (hs ++ []) lent (n + 0) room
nothing_added {hs} {lent} {n} s = rw (append-nil hs, add-zero n) s

pub put_adds : {hs : List CurveHit} {lent : List Float} {n : ℕ} {room : List Float} (h : CurveHit) → Stands hs lent n room → Stands (hs ++ h ∷ []) lent (n + 1) (put room n h)
put_adds {hs} {lent} h s = record { count = rw s.count (sym (length-append hs (h ∷ []))); numbers = rw (s.numbers, s.count) (put_written hs h lent) }

-- counts that are all 0, as `Default` gives them
pub no_counts : (t : Tally) → (t.hits ≡ 0) × ((t.brackets ≡ 0) × ((t.outside_a ≡ 0) × ((t.outside_b ≡ 0) × ((t.doubles ≡ 0) × (t.evaluations ≡ 0))))) → t ≡ tally none
no_counts t e = by_parts e.0 e.1.0 e.1.1.0 e.1.1.1.0 e.1.1.1.1.0 e.1.1.1.1.1
  where
    by_parts : {h b x y d v : ℕ} → h ≡ 0 → b ≡ 0 → x ≡ 0 → y ≡ 0 → d ≡ 0 → v ≡ 0
        → ◌≡◌ {A = Tally} (record { hits = h; brackets = b; outside_a = x; outside_b = y; doubles = d; evaluations = v }) (tally none)
    by_parts p q r s u w = rw (p, q, r, s, u, w) refl

module _ {o : Outcome} {lent : List Float} where
  pub holds_stands : {t : Tally} {room : List Float} → Holds o lent t room → Stands o.hits lent t.hits room
  holds_stands h = record { count = ap (λ (x : Tally). x.hits) h.counts; numbers = h.hits }

  -- nothing is written where there are no hits
  pub holds_empty : {t : Tally} → o.hits ≡ [] → t ≡ tally o → Holds o lent t lent
  holds_empty e c = record { counts = c; hits = rw e (sym (written_none lent)) }

  -- "that no second outcome satisfies it is itself proved"
  pub holds_unique : (t u : Tally) (x y : List Float) → Holds o lent t x → Holds o lent u y → (t ≡ u) × (x ≡ y)
  holds_unique t u x y p q = (p.counts ∙ sym q.counts, p.hits ∙ sym q.hits)
