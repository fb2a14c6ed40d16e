-- The search for an earlier hit, over the hits that a room stands for, and over the numbers of hits.
use mathlib.Core.Path.{◌≡◌, refl}
use mathlib.Core.Bool.{true, false, ◌||◌, or-true}
use mathlib.Core.List.{List, [], ◌∷◌, map}
use Prim.Native.Nat.{ℕ, zero as nought, suc, ◌+◌, ◌≤◌, ◌<◌}
use native.Mathlib.Nat.{not-suc-le-zero}
use native.Mathlib.Numerals.{add-one}
use native.Mathlib.Omega.{arith}
use lib.ListN.{length, get_or, drop}
use lib.Ieee.{Float, nan}
use Rattle.hits.specs.declared.CurveHit.{CurveHit}
use Rattle.hits.specs.Hit.{hit_at, hit_from}
use Rattle.hits.specs.Stands.{Stands}
use Rattle.hits.proofs.Rooms.{hits_step}
use Rattle.hunt_bracket.specs.Fate.{near, double}

-- from hit i on: the hit h that stands there, and those from the next on
pub double-step : (t : Float) (hs : List CurveHit) (lent : List Float) {n : ℕ} {room : List Float} → Stands hs lent n room → (i : ℕ) (h : CurveHit) → i < n → h ≡ hit_at room i
    → double t (drop i hs) ≡ near h.t_a t || double t (drop (i + 1) hs)
unfolding double
double-step t hs lent s i h l e = rw (e, s.numbers, hits_step hs lent i (rw (← s.count) l), add-one i) refl

pub double_past : (t : Float) (hs : List CurveHit) (i : ℕ) → length hs ≤ i → double t (drop i hs) ≡ false
unfolding double
double_past t [] nought h = refl
double_past t [] (suc i) h = refl
double_past t (h ∷ hs) nought l = absurd (not-suc-le-zero l)
double_past t (h ∷ hs) (suc i) l = double_past t hs i (omega arith)

-- a hit near t among those from i on is one among all
pub double_among : (t : Float) (hs : List CurveHit) (i : ℕ) → double t (drop i hs) ≡ true → double t hs ≡ true
unfolding double
double_among t hs nought e = e
double_among t [] (suc i) e = e
double_among t (h ∷ hs) (suc i) e = rw (double_among t hs i e) (or-true (near h.t_a t))

-- from hit i on, of hits that are read as their numbers
pub double_next : (t : Float) (hits : List (List Float)) (i : ℕ) → i < length hits
    → double t (drop i (map hit_from hits)) ≡ near (get_or (get_or hits i []) 0 nan) t || double t (drop (suc i) (map hit_from hits))
unfolding double
double_next t [] i l = absurd (omega arith)
double_next t (ns ∷ hits) nought l = refl
double_next t (ns ∷ hits) (suc i) l = double_next t hits i (omega arith)
