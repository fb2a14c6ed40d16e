-- 01, 'The program arcdesk and its lines': "fields parted by one tab". A field is read off what is left of a line: its value, and what is left then; none where there is no such field.
use Rattle.std.specs.Prelude.{ℕ, zero as nought, suc, ◌+◌, ◌*◌, cond, Bool, true, false, List, [], ◌∷◌, eqb, Option, Some, None, option_and_then, option_map, Float}
use Rattle.std.specs.Option.{option_map_or}
use Rattle.std.specs.Float.Ieee.{of_bits}
use Rattle.std.specs.Float.{binary64}
use Rattle.desk_fields.specs.Text.{capped}
use Rattle.digits.specs.Hex.{hex_value}
use Rattle.digits.specs.Decimal.{digit_value}

infixl 10 ◌>>=◌
abbrev pub ◌>>=◌ : {A B : Type 0} → Option A → (A → Option B) → Option B
o >>= f = option_and_then f o

-- what a call gives, with what it leaves
abbrev pub leaving : {A : Type 0} → Option A → List ℕ → Option (A × List ℕ)
leaving read rest = option_map (λ x. (x, rest)) read

abbrev pub byte_of : List ℕ → Option (ℕ × List ℕ)
byte_of [] = None
byte_of (b ∷ rest) = Some (b, rest)

abbrev pub tab_of : List ℕ → Option (Unit × List ℕ)
tab_of line = do
  (b, rest) ← byte_of line
  cond (eqb b 9) (Some (tt, rest)) None

-- k hex digits behind the value v
unfoldable pub bits_after : ℕ → ℕ → List ℕ → Option (ℕ × List ℕ)
bits_after nought v line = Some (v, line)
bits_after (suc k) v line = do
  (b, rest) ← byte_of line
  d ← hex_value b
  bits_after k (v * 16 + d) rest

abbrev pub bits_of : List ℕ → Option (ℕ × List ℕ)
bits_of line = bits_after 16 0 line

unfoldable pub number_of : List ℕ → Option (Float × List ℕ)
number_of line = do
  (_, digits) ← tab_of line
  (bits, rest) ← bits_of digits
  Some (of_bits binary64 bits, rest)

unfoldable pub digit_of : List ℕ → Option (ℕ × List ℕ)
digit_of line = do
  (_, digits) ← tab_of line
  (b, rest) ← byte_of digits
  d ← digit_value b
  Some (d, rest)

unfoldable pub mark_of : List ℕ → Option (Bool × List ℕ)
mark_of line = do
  (d, rest) ← digit_of line
  cond (eqb d 0) (Some (false, rest)) (cond (eqb d 1) (Some (true, rest)) None)

-- digits behind the value v, as many as there are
unfoldable pub run_after : ℕ → List ℕ → ℕ × List ℕ
run_after v [] = (v, [])
run_after v (b ∷ rest) = option_map_or (λ d. run_after (capped (v * 10 + d)) rest) (digit_value b) (v, b ∷ rest)

abbrev pub run_of : List ℕ → ℕ × List ℕ
run_of line = run_after 0 line

unfoldable pub record_of : List ℕ → Option (ℕ × List ℕ)
record_of line = do
  (_, digits) ← tab_of line
  (b, rest) ← byte_of digits
  lead ← digit_value b
  cond (eqb lead 0) None (Some (run_of digits))

abbrev pub end_of : List ℕ → Option Unit
end_of [] = Some tt
end_of (b ∷ rest) = None
