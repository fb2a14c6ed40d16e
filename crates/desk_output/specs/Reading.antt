-- The input as it comes: what is known after some bytes, and what is printed for the next ones. Of a line so much is kept as tells that it is malformed. That this prints `output` is
-- `fed-output` in proofs/Fed.antt.
use Rattle.std.specs.Prelude.{ℕ, ◌+◌, cond, List, [], ◌∷◌, ◌++◌, eqb, ltb, length}
use Rattle.desk_line.specs.Read.{read_line}
use Rattle.desk.specs.declared.Table.{Table}
use Rattle.desk.specs.Table.{empty}
use Rattle.desk.specs.Reply.{shown, table_after}
use Rattle.desk_lines.specs.Lines.{newline}
use Rattle.desk_lines.specs.Hand.{kept}

-- the table so far, the number of the line at hand, and what is kept of it
pub record Reading : Type 0 where
  pub table : Table
  pub number : ℕ
  pub line : List ℕ

abbrev pub start : Reading
start = record { table = empty; number = 1; line = [] }

-- the number of the next line. It has 64 bits and stays at the largest, which no input reaches.
abbrev pub largest : ℕ
largest = 18446744073709551615

unfoldable pub following : ℕ → ℕ
following n = cond (ltb n largest) (n + 1) n

-- the bytes that are printed, and what is known then
pub record Fed : Type 0 where
  pub printed : List ℕ
  pub reading : Reading

abbrev pub answer_of : Reading → List ℕ
answer_of q = (shown q.table q.number (read_line q.line)).bytes

-- the line at hand is whole
abbrev pub ended : Reading → Fed
ended q = record { printed = answer_of q; reading = record { table = table_after q.table (read_line q.line); number = following q.number; line = [] } }

-- the line at hand is one byte longer
abbrev pub longer : Reading → ℕ → Fed
longer q b = record { printed = []; reading = record { table = q.table; number = q.number; line = kept (q.line ++ b ∷ []) } }

abbrev pub next : Reading → ℕ → Fed
next q b = cond (eqb b newline) (ended q) (longer q b)

-- some bytes, one after the other
unfoldable pub fed : Reading → List ℕ → Fed
fed q [] = record { printed = []; reading = q }
fed q (b ∷ bytes) = let after = fed (next q b).reading bytes in record { printed = (next q b).printed ++ after.printed; reading = after.reading }

-- the input has ended: "A last line without newline counts"
abbrev pub last : Reading → List ℕ
last q = cond (ltb 0 (length q.line)) (answer_of q) []
