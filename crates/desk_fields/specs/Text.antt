-- 01, 'The program arcdesk and its lines': "fields parted by one tab". "Numbers are 16 lower-case hex digits of the f64's bits." "three digits 0 or 1 for ccw, closed, ellipse".
-- What bytes a field consists of, without a reader.
use Rattle.std.specs.Prelude.{ℕ, ◌+◌, ◌*◌, ◌-◌, ◌^◌, ◌≤◌, ◌<◌, min, ◌≡◌, Bool, cond, List, [], ◌∷◌, ◌++◌, Float}
use Rattle.std.specs.Float.Ieee.{of_bits}
use Rattle.std.specs.Float.{binary64}
use Rattle.digits.specs.Hex.{hex}
use Rattle.digits.specs.Decimal.{decimal_digit}

-- fields, each after a tab
unfoldable pub tabbed : List (List ℕ) → List ℕ
tabbed [] = []
tabbed (f ∷ fs) = 9 ∷ (f ++ tabbed fs)

-- the bits that a number is written by; every pattern of a NaN gives the NaN
pub record Bits (x : Float) : Type 0 where
  pub bits : ℕ
  pub small : bits < 2 ^ 64
  pub number : x ≡ of_bits binary64 bits

abbrev pub written : {x : Float} → Bits x → List ℕ
written b = hex b.bits

abbrev pub mark : Bool → List ℕ
mark b = decimal_digit (cond b 1 0) ∷ []

-- ---- "Records are numbered from 1, decimal without leading zeros"
unfoldable pub AllDigits : List ℕ → Type 0
AllDigits [] = Unit
AllDigits (d ∷ ds) = (48 ≤ d) × (d ≤ 57) × AllDigits ds

unfoldable pub Numeral : List ℕ → Type 0
Numeral [] = ⊥
Numeral (d ∷ ds) = (49 ≤ d) × (d ≤ 57) × AllDigits ds

-- digits that come after the value v
unfoldable pub value_after : ℕ → List ℕ → ℕ
value_after v [] = v
value_after v (d ∷ ds) = value_after (v * 10 + (d - 48)) ds

-- "a record number above 64, however many digits it has, is one not in the table": all of these are 65
abbrev pub capped : ℕ → ℕ
capped n = min n 65

pub record RecordNumber (n : ℕ) : Type 0 where
  pub digits : List ℕ
  pub numeral : Numeral digits
  pub number : n ≡ capped (value_after 0 digits)
