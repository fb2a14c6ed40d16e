-- 01, 'What a caller may conclude': "Four empty builds are to be tried: [..] and one that narrows the first bracket and copies it for the rest (demand 2's bits at each hit, at every
-- depth)." What shuts it out, and what it leaves in the room.
use Rattle.std.specs.Prelude.{ℕ, ◌<◌, ◌≡◌, List, length, get_or, Float}
use Rattle.std.specs.Float.{nan}
use Rattle.curves.specs.At.{at}
use Rattle.hits.specs.declared.CurveHit.{CurveHit}
use Rattle.hits.specs.Hit.{hit_of, hit_at}

-- "A hit takes four f64: t_a, t_b, x, y."
pub data HitNumber : Type 0 where
  ta tb x y : HitNumber

abbrev pub of : HitNumber → CurveHit → Float
of ta h = h.t_a
of tb h = h.t_b
of x h = h.pos.x
of y h = h.pos.y

-- what `get_or` asks for past the end of a list; no place below is past it
abbrev pub nowhere : CurveHit
nowhere = hit_of nan nan (at nan nan)

-- TWO HITS of a list differ in all four numbers
pub record Distinct (hs : List CurveHit) : Type 0 where
  pub i : ℕ
  pub j : ℕ
  pub first : i < length hs
  pub second : j < length hs
  pub differ : (n : HitNumber) → of n (get_or hs i nowhere) ≡ of n (get_or hs j nowhere) → ⊥

-- WHAT COPYING LEAVES: one of the numbers is the same in each of the first `count` hits of the room
abbrev pub Copied : HitNumber → ℕ → List Float → Type 0
Copied n count room = (i j : ℕ) → i < count → j < count → of n (hit_at room i) ≡ of n (hit_at room j)
