-- 01, 'The program arcdesk and its lines': "A refused line prints `R`, line number, refusal, and the table stays. An `S` or `A` that is taken prints nothing." What is printed for all
-- the bytes of the input: each line is answered with its number, the first being 1, and with the table that the lines before it left.
use Rattle.std.specs.Prelude.{ℕ, ◌+◌, List, [], ◌∷◌, ◌++◌}
use Rattle.desk_line.specs.Read.{read_line}
use Rattle.desk.specs.declared.Table.{Table}
use Rattle.desk.specs.Table.{empty}
use Rattle.desk.specs.Reply.{shown, table_after}
use Rattle.desk_lines.specs.Lines.{lines}

-- the answers to the lines from number n on
unfoldable pub answers : Table → ℕ → List (List ℕ) → List ℕ
answers t n [] = []
answers t n (line ∷ rest) = (shown t n (read_line line)).bytes ++ answers (table_after t (read_line line)) (n + 1) rest

-- THE OUTPUT for all the bytes of the input
abbrev pub output : List ℕ → List ℕ
output bytes = answers empty 1 (lines bytes)
