-- 01, 'The program arcdesk and its lines': "A refused line prints `R`, line number, refusal". "Output fields are parted by one tab, each line ends in a newline, counts and line
-- numbers are decimal, hits are numbered from 1 in each query." "Output: a hit line (line number, hit number, t_a, t_b, x, y) and an end line (line number, hits, brackets,
-- evaluations; the last two are 0 where nothing is sampled)." "Numbers are 16 lower-case hex digits of the f64's bits." Bytes are ASCII.
use Rattle.std.specs.Prelude.{ℕ, ◌+◌, List, [], ◌∷◌, ◌++◌, Float}
use Rattle.std.specs.Float.{binary64}
use Rattle.std.specs.Float.Ieee.{to_bits}
use Rattle.hits.specs.declared.CurveHit.{CurveHit}
use Rattle.hits.specs.declared.Tally.{Tally}
use Rattle.digits.specs.Hex.{hex}
use Rattle.digits.specs.Decimal.{decimal}

abbrev pub tab : ℕ
tab = 9

abbrev pub newline : ℕ
newline = 10

-- a field that is a count
unfoldable pub count : ℕ → List ℕ
count n = tab ∷ [] ++ decimal n

-- a field that is a number
unfoldable pub number : Float → List ℕ
number x = tab ∷ [] ++ hex (to_bits binary64 x)

-- the letter and the line number
unfoldable pub head : ℕ → ℕ → List ℕ
head letter line = letter ∷ [] ++ count line

unfoldable pub numbers : CurveHit → List ℕ
numbers h = number h.t_a ++ number h.t_b ++ number h.pos.x ++ number h.pos.y

-- the longest that four fields of 17 bytes are, and a hit line with them: `numbers-length` and `hit_length` in proofs/Lines.antt
abbrev pub longest_numbers : ℕ
longest_numbers = 68

abbrev pub longest_hit_line : ℕ
longest_hit_line = 44 + longest_numbers

-- `R` is 82
unfoldable pub refused_line : ℕ → ℕ → List ℕ
refused_line line refusal = head 82 line ++ count refusal ++ newline ∷ []

-- `H` is 72
unfoldable pub hit_line : ℕ → ℕ → CurveHit → List ℕ
hit_line line i h = head 72 line ++ count i ++ numbers h ++ newline ∷ []

-- `E` is 69
unfoldable pub end_line : ℕ → Tally → List ℕ
end_line line t = head 69 line ++ count t.hits ++ count t.brackets ++ count t.evaluations ++ newline ∷ []

-- the hits from number i on
unfoldable pub hit_lines : ℕ → ℕ → List CurveHit → List ℕ
hit_lines line i [] = []
hit_lines line i (h ∷ hs) = hit_line line i h ++ hit_lines line (i + 1) hs
