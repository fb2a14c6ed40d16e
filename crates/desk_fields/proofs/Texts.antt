-- What a field that was read is in the line: a tab and its text, and then what is left.
use Rattle.std.proofs.Common.{◌≡◌, ℕ, ◌<◌, Bool, true, false, List, [], ◌∷◌, ◌++◌, Some, sym, ap, ◌∙◌, arith}
use Rattle.std.proofs.lemmas.Option.{none-some, same_Some, some_pair_parts, option_and_then_some}
use native.Mathlib.Decide.{ℕ_discrete}
use borrow.Author.Tests.{eq-eqb, ne_eqb}
use lib.Ieee.{Float, of_bits, binary64}
use Rattle.digits.specs.Decimal.{decimal_digit, digit_value}
use Rattle.digits.proofs.Values.{digit-from_value}
use Rattle.desk_fields.specs.Text.{tabbed, Bits, written, mark, RecordNumber}
use Rattle.desk_fields.specs.Field.{byte_of, tab_of, bits_of, number_of, digit_of, mark_of, run_of, record_of}
use Rattle.desk_fields.proofs.Steps.{byte_text, tab_text}
use Rattle.desk_fields.proofs.Hex.{hex_text}
use Rattle.desk_fields.proofs.Runs.{numeral_text}

-- the line is a field, whatever fields are left
abbrev pub Text : List ℕ → List ℕ → List ℕ → Type 0
Text line f rest = (fs : List (List ℕ)) → rest ≡ tabbed fs → line ≡ tabbed (f ∷ fs)

tabbed_text : (line digits f rest : List ℕ) → line ≡ 9 ∷ digits → digits ≡ f ++ rest → Text line f rest
unfolding tabbed
tabbed_text line digits f rest t d fs e = t ∙ ap (λ (l : List ℕ). 9 ∷ l) (d ∙ ap (λ (l : List ℕ). f ++ l) e)

pub record Number (line : List ℕ) (x : Float) (rest : List ℕ) : Type 0 where
  pub number : Bits x
  pub text : Text line (written number) rest

pub number_text : (line : List ℕ) (x : Float) (rest : List ℕ) → number_of line ≡ Some (x, rest) → Number line x rest
unfolding number_of
number_text line x rest e =
    option_and_then_some _ (tab_of line) (x, rest) e (λ t tab digits.
    option_and_then_some _ (bits_of t.1) (x, rest) digits (λ b bits gives.
    let s = some_pair_parts (of_bits binary64 b.0) x b.1 rest gives in
    let h = hex_text b.0 t.1 b.1 bits in
    record {
      number = record { bits = b.0; small = h.small; number = sym s.0 };
      text = tabbed_text line t.1 _ rest (tab_text line t.1 t.0 tab) (rw (← s.1) h.text);
    }))

pub record Digit (line : List ℕ) (d : ℕ) (rest : List ℕ) : Type 0 where
  pub small : d < 10
  pub text : Text line (decimal_digit d ∷ []) rest

pub digit_text : (line : List ℕ) (d : ℕ) (rest : List ℕ) → digit_of line ≡ Some (d, rest) → Digit line d rest
unfolding digit_of
digit_text line d rest e =
    option_and_then_some _ (tab_of line) (d, rest) e (λ t tab digits.
    option_and_then_some _ (byte_of t.1) (d, rest) digits (λ b byte value.
    option_and_then_some _ (digit_value b.0) (d, rest) value (λ v valued gives.
    let s = some_pair_parts v d b.1 rest gives in
    let g = digit-from_value b.0 v valued in
    record {
      small = omega (arith, g.small, s.0);
      text = tabbed_text line t.1 _ rest (tab_text line t.1 t.0 tab) (rw (← s.0, ← s.1, ← g.byte) (byte_text t.1 b.0 b.1 byte));
    })))

pub mark_text : (line : List ℕ) (m : Bool) (rest : List ℕ) → mark_of line ≡ Some (m, rest) → Text line (mark m) rest
unfolding mark_of
mark_text line m rest e =
    option_and_then_some _ (digit_of line) (m, rest) e (λ d digit gives.
    let t = (digit_text line d.0 d.1 digit).text in
    elim (ℕ_discrete d.0 0) [
      | yes z ↦ let s = some_pair_parts false m d.1 rest (rw (eq-eqb d.0 0 z) at gives) in let t' : Text line (decimal_digit 0 ∷ []) d.1 = rw z at t in rw (← s.0, ← s.1) t'
      | no z ↦ elim (ℕ_discrete d.0 1) [
        | yes o ↦ let s = some_pair_parts true m d.1 rest (rw (ne_eqb d.0 0 z, eq-eqb d.0 1 o) at gives) in let t' : Text line (decimal_digit 1 ∷ []) d.1 = rw o at t in rw (← s.0, ← s.1) t'
        | no o ↦ absurd (none-some (m, rest) (rw (ne_eqb d.0 0 z, ne_eqb d.0 1 o) at gives))
      ]
    ])

pub record Record (line : List ℕ) (n : ℕ) (rest : List ℕ) : Type 0 where
  pub number : RecordNumber n
  pub text : Text line number.digits rest

pub record_text : (line : List ℕ) (n : ℕ) (rest : List ℕ) → record_of line ≡ Some (n, rest) → Record line n rest
unfolding record_of
record_text line n rest e =
    option_and_then_some _ (tab_of line) (n, rest) e (λ t tab digits.
    option_and_then_some _ (byte_of t.1) (n, rest) digits (λ b byte value.
    option_and_then_some _ (digit_value b.0) (n, rest) value (λ lead valued gives.
    elim (ℕ_discrete lead 0) [
      | yes z ↦ absurd (none-some (n, rest) (rw (eq-eqb lead 0 z) at gives))
      | no z ↦
          let s = same_Some (run_of t.1) (n, rest) (rw (ne_eqb lead 0 z) at gives) in
          let r = numeral_text b.0 lead b.1 valued z in
          let bytes = byte_text t.1 b.0 b.1 byte in
          let runs = rw bytes at s in
          record {
            number = record { digits = r.digits; numeral = r.numeral; number = ap (λ (p : ℕ × List ℕ). p.0) (sym runs) ∙ r.number };
            text = tabbed_text line t.1 r.digits rest (tab_text line t.1 t.0 tab) (bytes ∙ r.text ∙ ap (λ (p : ℕ × List ℕ). r.digits ++ p.1) runs);
          }
    ])))
