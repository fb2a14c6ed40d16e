-- 01, 'Numbers taken and numbers given back': "A hit takes four f64: t_a, t_b, x, y." "Numbers after the hits stay as lent." "A single hit can be asked for by its index, the first
-- being 0: its four numbers come back as that part of the caller's own room; an index not below the stated number of hits, or whose four numbers do not all fit in the room, gets
-- the empty part."
use Rattle.std.specs.Prelude.{ℕ, ◌+◌, ◌*◌, cond, ◌&&◌, List, [], ◌∷◌, leb, ltb, length, get_or, take, drop, Float}
use Rattle.std.specs.Float.{nan}
use Rattle.rooms.specs.Laid.{placed, laid}
use Rattle.curves.specs.declared.Point.{Point}
use Rattle.hits.specs.declared.CurveHit.{CurveHit}

-- THE SIZE of a hit. It is said here and, for the code, by `HIT`; that `numbers` has so many is `numbers_size` in proofs/Rooms.antt.
abbrev pub hit_size : ℕ
hit_size = 4

abbrev pub numbers : CurveHit → List Float
numbers h = h.t_a ∷ h.t_b ∷ h.pos.x ∷ h.pos.y ∷ []

-- the hit that has these numbers
abbrev pub hit_from : List Float → CurveHit
hit_from ns = record { t_a = get_or ns 0 nan; t_b = get_or ns 1 nan; pos = record { x = get_or ns 2 nan; y = get_or ns 3 nan } }

-- the hit of two curves at these parameters and this position
abbrev pub hit_of : Float → Float → Point → CurveHit
hit_of ta tb pos = record { t_a = ta; t_b = tb; pos = pos }

-- ---- in a room

-- the hits at the room's start
unfoldable pub written : List CurveHit → List Float → List Float
written hs room = laid numbers hs room

-- one hit written after the first n
unfoldable pub put : List Float → ℕ → CurveHit → List Float
put room n h = placed (numbers h) (n * hit_size) room

-- the hit i as it stands there
abbrev pub hit_at : List Float → ℕ → CurveHit
hit_at room i =
    let from = i * hit_size in
    record { t_a = get_or room from nan; t_b = get_or room (from + 1) nan; pos = record { x = get_or room (from + 2) nan; y = get_or room (from + 3) nan } }

unfoldable pub hit_part : List Float → ℕ → ℕ → List Float
hit_part room hits i = cond (ltb i hits && leb (i * hit_size + hit_size) (length room)) (take hit_size (drop (i * hit_size) room)) []
