-- What a call leaves: the table, the room and the list of bytes to print. A room below the largest need (01: "1,024 times 2^depth"), that of one hit in each cell at the deepest, or a
-- list with less than 262,144 bytes left, which as many hit lines and an end line fit, is short: nothing is done. Else the bytes come behind the list's and the hits stand at the
-- room's start, and the rest is as lent.
use Rattle.std.specs.Prelude.{ℕ, ◌≡◌, Bool, cond, ◌||◌, List, ◌++◌, ltb, length, Float, Option, Result, Ok, Err, ⊤}
use Rattle.hits.specs.Hit.{written}
use Rattle.hits.specs.Need.{need}
use Rattle.hunt.specs.Cells.{cells}
use Rattle.checks.specs.Refusal.{deepest}
use Rattle.desk_line.specs.declared.Line.{Line}
use Rattle.desk.specs.declared.Table.{Table}
use Rattle.desk.specs.declared.Short.{Short}
use Rattle.desk.specs.Reply.{Shown, shown, table_after}

-- how many hits a query can have
abbrev pub most_hits : ℕ
most_hits = cells deepest

abbrev pub room_need : ℕ
room_need = need most_hits

abbrev pub out_need : ℕ
out_need = 262144

-- the room, and how many bytes the list has left
abbrev pub short : List Float → ℕ → Bool
short room left = ltb (length room) room_need || ltb left out_need

pub record After : Type 0 where
  pub result : Result ⊤ Short
  pub table : Table
  pub room : List Float
  pub out : List ℕ

abbrev pub untouched : Table → List Float → List ℕ → After
untouched t room out = record { result = Err (record {}); table = t; room = room; out = out }

abbrev pub done : Table → Shown → List Float → List ℕ → After
done t s room out = record { result = Ok tt; table = t; room = written s.hits room; out = out ++ s.bytes }

-- THE PROMISE of a call
unfoldable pub answer : Table → ℕ → Option Line → List Float → ℕ → List ℕ → After
answer t line l room left out = cond (short room left) (untouched t room out) (done (table_after t l) (shown t line l) room out)

-- the same of a step that shows s: the room and the list before, and both after
pub record Shows (s : Shown) (room : List Float) (out : List ℕ) (room' : List Float) (out' : List ℕ) : Type 0 where
  pub bytes : out' ≡ out ++ s.bytes
  pub hits : room' ≡ written s.hits room
