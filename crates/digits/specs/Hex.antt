-- 01, 'The program arcdesk and its lines': "Numbers are 16 lower-case hex digits of the f64's bits." Bytes are numbers below 256, in ASCII.
use Rattle.std.specs.Prelude.{ℕ, zero as nought, suc, ◌+◌, ◌-◌, ◌/◌, ◌%◌, cond, List, [], ◌∷◌, ◌++◌, leb, ltb, ◌&&◌, Option, Some}
use Rattle.digits.specs.Decimal.{digit_value}

-- of a value below 16: 0 to 9, then a to f
abbrev pub hex_digit : ℕ → ℕ
hex_digit v = cond (ltb v 10) (48 + v) (87 + v)

-- the last k hex digits of n, the highest first
unfoldable pub hex_digits : ℕ → ℕ → List ℕ
hex_digits nought n = []
hex_digits (suc k) n = hex_digits k (n / 16) ++ hex_digit (n % 16) ∷ []

-- all that a number of 64 bits has
abbrev pub hex : ℕ → List ℕ
hex n = hex_digits 16 n

-- the value of a byte as a digit; none of a byte that is no digit
abbrev pub hex_value : ℕ → Option ℕ
hex_value b = cond (leb 97 b && leb b 102) (Some (b - 87)) (digit_value b)
