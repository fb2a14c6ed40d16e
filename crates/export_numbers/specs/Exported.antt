-- 01, 'Numbers taken and numbers given back': "A call tests 1 over all its numbers (not those already in the lent room), then 2, 3, 4, then the rest." "A refusal returns its number and
-- no other value, and the room keeps all its old numbers." An export gives the refusal's number, 0 for none, and writes what the library tells to lent rooms; 4 is given where any of
-- them is too short.
use Rattle.std.specs.Prelude.{ℕ, ◌≡◌, cond, ◌&&◌, List, ◌++◌, eqb, ltb, length, Float}
use Rattle.rooms.specs.Laid.{over}
use Rattle.checks.specs.Refusal.{accepted, room_too_short, or_later}
use Rattle.checks.specs.Answer.{Answer}
use Rattle.calls_answers.specs.Floats.{floats}

-- the refusal where a room for so many numbers has the length given
abbrev pub short : ℕ → ℕ → ℕ
short need length = cond (ltb length need) room_too_short accepted

-- "then 2, 3, 4, then the rest": the library's 1, 2 and 3 come before the room's refusal, its 5 and 6 after it
abbrev pub with_room : ℕ → ℕ → ℕ
with_room n room = cond (ltb accepted n && ltb n room_too_short) n (or_later room n)

-- ---- numbers

-- a call that gives numbers: how many it needs room for; the library's refusal n and the numbers; the slice before; the number given back and the slice after
pub record NumbersWritten (need n : ℕ) (numbers : List Float) (lent : List Float) (number : ℕ) (lent' : List Float) : Type 0 where
  pub refusal : number ≡ with_room n (short need (length lent))
  pub values : lent' ≡ cond (eqb number accepted) (over numbers lent) lent

-- what the library tells: the numbers, then the counts
unfoldable pub NumbersOut : ℕ → Answer → List Float → ℕ → List Float → Type 0
NumbersOut need told lent number lent' = NumbersWritten need told.refusal (told.numbers ++ floats told.counts) lent number lent'
