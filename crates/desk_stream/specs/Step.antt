-- What one step leaves: it takes the bytes of a piece, up to and with the first newline, or all. The bytes to print are those of `out`, a query's hits stand at the start of `room`, and
-- what is behind them is as lent.
use Rattle.std.specs.Prelude.{ℕ, cond, List, [], ltb, length, drop, Float}
use Rattle.hits.specs.Hit.{written}
use Rattle.desk_lines.specs.Hand.{ends, first, hand_of}
use Rattle.desk_line.specs.Read.{read_line}
use Rattle.desk.specs.Reply.{Shown, shown, table_after}
use Rattle.desk_output.specs.Reading.{Reading, following}

-- what is known then, the bytes of the piece that are left, the room and the bytes to print
pub record After : Type 0 where
  pub reading : Reading
  pub rest : List ℕ
  pub room : List Float
  pub out : List ℕ

-- the line at hand is whole
abbrev pub answered : Reading → List ℕ → List ℕ → List Float → After
answered q rest hand room =
    let shows = shown q.table q.number (read_line hand) in
    record {
      reading = record { table = table_after q.table (read_line hand); number = following q.number; line = [] };
      rest = rest;
      room = written shows.hits room;
      out = shows.bytes;
    }

-- more of it is to come
abbrev pub waiting : Reading → List ℕ → List ℕ → List Float → After
waiting q rest hand room = record { reading = record { table = q.table; number = q.number; line = hand }; rest = rest; room = room; out = [] }

-- THE PROMISE of a step
unfoldable pub stepped : Reading → List ℕ → List Float → After
stepped q piece room =
    let hand = hand_of q.line piece in
    let rest = drop (length (first piece)) piece in
    cond (ends piece) (answered q rest hand room) (waiting q rest hand room)

-- ---- the input has ended

pub record Finished : Type 0 where
  pub room : List Float
  pub out : List ℕ

abbrev pub finishing : Shown → List Float → Finished
finishing s room = record { room = written s.hits room; out = s.bytes }

-- THE PROMISE of the end
unfoldable pub finished : Reading → List Float → Finished
finished q room = cond (ltb 0 (length q.line)) (finishing (shown q.table q.number (read_line q.line)) room) (record { room = room; out = [] })
