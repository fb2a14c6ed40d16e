-- 01, 'The program arcdesk and its lines': "It reads standard input, one record a line", "A last line without newline counts; an empty line is malformed; empty input prints nothing."
-- The lines of all the bytes: a newline ends a line and is no part of it, and so does the end of the bytes where the line has begun.
use Rattle.std.specs.Prelude.{ℕ, cond, List, [], ◌∷◌, eqb}

abbrev pub newline : ℕ
newline = 10

-- a byte more at the start of the first line
abbrev pub begun : ℕ → List (List ℕ) → List (List ℕ)
begun b [] = (b ∷ []) ∷ []
begun b (line ∷ rest) = (b ∷ line) ∷ rest

unfoldable pub lines : List ℕ → List (List ℕ)
lines [] = []
lines (b ∷ bytes) = cond (eqb b newline) ([] ∷ lines bytes) (begun b (lines bytes))
