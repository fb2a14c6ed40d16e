-- The values of digits: a byte that has one is the digit of its value, and every digit has its value.
use Rattle.std.proofs.Common.{◌≡◌, ℕ, ◌<◌, Some, arith}
use Rattle.std.proofs.lemmas.Grind.{common_steps}
use Rattle.digits.specs.Hex.{hex_digit, hex_value}
use Rattle.digits.specs.Decimal.{decimal_digit, digit_value}

pub digit_value-digit : (v : ℕ) → v < 10 → digit_value (decimal_digit v) ≡ Some v
digit_value-digit v h = grind (arith, common_steps)

pub record Digit (b v : ℕ) : Type 0 where
  pub byte : b ≡ decimal_digit v
  pub small : v < 10

pub digit-from_value : (b v : ℕ) → digit_value b ≡ Some v → Digit b v
digit-from_value b v e = record { byte = grind (arith, common_steps); small = grind (arith, common_steps) }

pub hex_value-digit : (v : ℕ) → v < 16 → hex_value (hex_digit v) ≡ Some v
hex_value-digit v h = grind (arith, common_steps)

pub record HexDigit (b v : ℕ) : Type 0 where
  pub byte : b ≡ hex_digit v
  pub small : v < 16

pub hex_digit-from_value : (b v : ℕ) → hex_value b ≡ Some v → HexDigit b v
hex_digit-from_value b v e = record { byte = grind (arith, common_steps); small = grind (arith, common_steps) }
