-- 01, 'The program arcdesk and its lines': record numbers are "decimal without leading zeros", "counts and line numbers are decimal".
use Rattle.std.specs.Prelude.{ℕ, zero as nought, suc, ◌+◌, ◌-◌, ◌/◌, ◌%◌, cond, List, [], ◌∷◌, ◌++◌, leb, ltb, ◌&&◌, Option, Some, None}

-- of a value below 10
abbrev pub decimal_digit : ℕ → ℕ
decimal_digit v = 48 + v

-- the digits of n, the highest first, where n has at most k
unfoldable pub decimals : ℕ → ℕ → List ℕ
decimals nought n = []
decimals (suc k) n = cond (ltb n 10) (decimal_digit n ∷ []) (decimals k (n / 10) ++ decimal_digit (n % 10) ∷ [])

-- a number of 64 bits has at most 20
abbrev pub decimal : ℕ → List ℕ
decimal n = decimals 20 n

-- the value of a byte as a digit; none of a byte that is no digit
abbrev pub digit_value : ℕ → Option ℕ
digit_value b = cond (leb 48 b && leb b 57) (Some (b - 48)) None
