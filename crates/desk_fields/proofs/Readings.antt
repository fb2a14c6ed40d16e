-- A text of fields, read back: each field gives what it says, and leaves the fields after it.
use Rattle.std.proofs.Common.{◌≡◌, ℕ, ◌-◌, ◌<◌, Bool, true, false, List, [], ◌∷◌, ◌++◌, Some, ◌∙◌, arith}
use borrow.Author.Tests.{ne_eqb}
use lib.Ieee.{Float}
use Rattle.digits.specs.Decimal.{decimal_digit}
use Rattle.digits.proofs.Values.{digit_value-digit}
use Rattle.desk_fields.specs.Text.{tabbed, Bits, written, mark, Numeral, RecordNumber}
use Rattle.desk_fields.specs.Field.{number_of, digit_of, mark_of, run_of, record_of}
use Rattle.desk_fields.proofs.Hex.{hex_read}
use Rattle.desk_fields.proofs.Runs.{run_read, value-digit, numeral_digits}

module _ (fs : List (List ℕ)) where
  pub number_read : {x : Float} (b : Bits x) → number_of (tabbed (written b ∷ fs)) ≡ Some (x, tabbed fs)
  unfolding number_of tabbed
  number_read b = rw (hex_read b.bits (tabbed fs) b.small, b.number)

  pub digit_read : (d : ℕ) → d < 10 → digit_of (tabbed ((decimal_digit d ∷ []) ∷ fs)) ≡ Some (d, tabbed fs)
  unfolding digit_of tabbed
  digit_read d h = rw (digit_value-digit d h)

  pub mark_read : (m : Bool) → mark_of (tabbed (mark m ∷ fs)) ≡ Some (m, tabbed fs)
  unfolding mark_of
  mark_read true = rw (digit_read 1 (omega arith))
  mark_read false = rw (digit_read 0 (omega arith))

  -- a number that begins with 1 to 9 is read, whatever follows
  record_lead : (ds : List ℕ) → Numeral ds → record_of (tabbed (ds ∷ fs)) ≡ Some (run_of (ds ++ tabbed fs))
  unfolding Numeral record_of tabbed
  record_lead [] h = absurd h
  record_lead (d ∷ ds) h = rw (value-digit d (omega (arith, h.0)) h.1, ne_eqb (d - 48) 0 (λ z. omega (arith, h.0, z)))

  pub record_read : {v : ℕ} (n : RecordNumber v) → record_of (tabbed (n.digits ∷ fs)) ≡ Some (v, tabbed fs)
  record_read n = record_lead n.digits n.numeral ∙ rw (run_read 0 n.digits fs (omega arith) (numeral_digits n.digits n.numeral), n.number)
