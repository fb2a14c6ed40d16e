-- 01, 'Numbers taken and numbers given back': "A call tests 1 over all its numbers (not those already in the lent room), then 2, 3, 4, then the rest." "A refusal returns its number and
-- no other value, and the room keeps all its old numbers." An export with hits gives the refusal's number, 0 for none, and writes the hits to one lent room and what is counted to
-- another; 4 is given where either is too short.
use Rattle.std.specs.Prelude.{ℕ, ◌≡◌, cond, List, [], ◌∷◌, eqb, length, Float}
use Rattle.rooms.specs.Laid.{over}
use Rattle.hits.specs.Hit.{hit_size, written}
use Rattle.checks.specs.Refusal.{accepted, or_later}
use Rattle.hits.specs.Need.{lengths}
use Rattle.calls_crossings.specs.Crossed.{HitsAnswer}
use Rattle.export_numbers.specs.Exported.{short}

-- ---- hits

-- a call with hits: what the library answers; both rooms before; the number given back and both rooms after. The library's own refusals here are 1 to 4.
pub record HitsOut (q : HitsAnswer) (room : List Float) (lent : List ℕ) (number : ℕ) (room' : List Float) (lent' : List ℕ) : Type 0 where
  pub refusal : number ≡ or_later (q.refusal (lengths room)) (short (length q.counts) (length lent))
  pub hits : room' ≡ cond (eqb number accepted) (written q.hits room) room
  pub counts : lent' ≡ cond (eqb number accepted) (over q.counts lent) lent

-- ---- one hit

-- "its four numbers come back as that part of the caller's own room": the part goes to one lent slice, how many numbers it has to another. 4 where a hit or the count would not fit.
pub record HitOut (part : List Float) (out : List Float) (lent : List ℕ) (number : ℕ) (out' : List Float) (lent' : List ℕ) : Type 0 where
  pub refusal : number ≡ or_later (short hit_size (length out)) (short 1 (length lent))
  pub values : out' ≡ cond (eqb number accepted) (over part out) out
  pub counts : lent' ≡ cond (eqb number accepted) (over (length part ∷ []) lent) lent
