-- The line at hand in its buffer, and the bytes of a piece that go to it. 01: "at most 256 bytes without the newline", "a line above 256 bytes is malformed": so 257 bytes of a line are kept,
-- however long it is.
use Rattle.std.specs.Prelude.{ℕ, ◌≡◌, Bool, true, false, cond, List, [], ◌∷◌, ◌++◌, eqb, length, take, Option, Some, None}
use Rattle.desk_lines.specs.Lines.{newline}

abbrev pub most : ℕ
most = 257

abbrev pub kept : List ℕ → List ℕ
kept line = take most line

-- the bytes before the first newline, all where there is none
unfoldable pub before : List ℕ → List ℕ
before [] = []
before (b ∷ bytes) = cond (eqb b newline) [] (b ∷ before bytes)

-- whether there is a newline
unfoldable pub ends : List ℕ → Bool
ends [] = false
ends (b ∷ bytes) = cond (eqb b newline) true (ends bytes)

-- the bytes up to it, and with it, where there is one
unfoldable pub first : List ℕ → List ℕ
first [] = []
first (b ∷ bytes) = b ∷ cond (eqb b newline) [] (first bytes)

-- the line at hand with the bytes before a newline
abbrev pub hand_of : List ℕ → List ℕ → List ℕ
hand_of line bytes = kept (line ++ before bytes)

-- up to where a piece is read, if it ends the line at hand
abbrev pub read_of : List ℕ → Option ℕ
read_of bytes = cond (ends bytes) (Some (length (first bytes))) None

-- the line at hand with the bytes of a piece, and up to where that is read, if it ends the line
pub record Takes (line piece : List ℕ) (r : Option ℕ) (line' : List ℕ) : Type 0 where
  pub read : r ≡ read_of piece
  pub hand : line' ≡ hand_of line piece
