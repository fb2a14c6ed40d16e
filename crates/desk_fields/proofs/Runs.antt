-- The digits of a record number: those that a run takes, and what follows them.
use Rattle.std.proofs.Common.{◌≡◌, ℕ, ◌+◌, ◌*◌, ◌-◌, ◌≤◌, List, [], ◌∷◌, ◌++◌, Option, Some, None, refl, sym, ap, ◌∙◌, arith}
use Rattle.std.specs.Option.{option_map_or}
use Rattle.digits.specs.Decimal.{digit_value}
use Rattle.digits.proofs.Values.{digit_value-digit, digit-from_value}
use Rattle.desk_fields.specs.Text.{tabbed, AllDigits, Numeral, value_after, capped}
use Rattle.desk_fields.specs.Field.{run_after, run_of}

-- a value that was capped before the digits that follow
capped_after : (v : ℕ) (ds : List ℕ) → capped (value_after (capped v) ds) ≡ capped (value_after v ds)
unfolding value_after
capped_after v [] = omega arith
capped_after v (d ∷ ds) =
    let e : capped (capped v * 10 + (d - 48)) ≡ capped (v * 10 + (d - 48)) = omega arith in
    sym (capped_after (capped v * 10 + (d - 48)) ds) ∙ ap (λ (w : ℕ). capped (value_after w ds)) e ∙ capped_after (v * 10 + (d - 48)) ds

-- ---- a run is of digits, and the list begins with it
pub record Run (v : ℕ) (bs : List ℕ) (n : ℕ) (rest : List ℕ) : Type 0 where
  pub digits : List ℕ
  pub all : AllDigits digits
  pub text : bs ≡ digits ++ rest
  pub number : n ≡ capped (value_after v digits)

pub run_text : (v : ℕ) (bs : List ℕ) → v ≤ 65 → Run v bs (run_after v bs).0 (run_after v bs).1
unfolding run_after AllDigits value_after
run_text v [] h = record { digits = []; all = tt; text = refl; number = omega arith }
run_text v (b ∷ bs) h = go (digit_value b) refl (λ w l. run_text w bs l)
  where
    stops : ℕ × List ℕ
    stops = (v, b ∷ bs)

    more : ℕ → ℕ × List ℕ
    more d = run_after (capped (v * 10 + d)) bs

    go : (o : Option ℕ) → digit_value b ≡ o → ((w : ℕ) → w ≤ 65 → Run w bs (run_after w bs).0 (run_after w bs).1) → Run v (b ∷ bs) (option_map_or more o stops).0 (option_map_or more o stops).1
    go None e rest = record { digits = []; all = tt; text = refl; number = omega arith }
    go (Some d) e rest =
        let g = digit-from_value b d e in
        let r = rest (capped (v * 10 + d)) (omega arith) in
        let same : b - 48 ≡ d = omega (arith, g.byte) in
        record {
          digits = b ∷ r.digits;
          all = (omega (arith, g.byte), omega (arith, g.byte, g.small), r.all);
          text = ap (λ (l : List ℕ). b ∷ l) r.text;
          number = r.number ∙ capped_after (v * 10 + d) r.digits ∙ rw same;
        }

-- ---- the same, where the first digit is not 0
pub record NumeralRun (bs : List ℕ) (n : ℕ) (rest : List ℕ) : Type 0 where
  pub digits : List ℕ
  pub numeral : Numeral digits
  pub text : bs ≡ digits ++ rest
  pub number : n ≡ capped (value_after 0 digits)

pub numeral_text : (b lead : ℕ) (bs : List ℕ) → digit_value b ≡ Some lead → (lead ≡ 0 → ⊥) → NumeralRun (b ∷ bs) (run_of (b ∷ bs)).0 (run_of (b ∷ bs)).1
unfolding run_after Numeral value_after
numeral_text b lead bs e z =
    let g = digit-from_value b lead e in
    let r = run_text (capped (0 * 10 + lead)) bs (omega arith) in
    let same : b - 48 ≡ lead = omega (arith, g.byte) in
    record {
      digits = b ∷ r.digits;
      numeral = (omega (arith, g.byte), omega (arith, g.byte, g.small), r.all);
      text = rw e (ap (λ (l : List ℕ). b ∷ l) r.text);
      number = rw e (r.number ∙ capped_after (0 * 10 + lead) r.digits ∙ ap (λ (w : ℕ). capped (value_after (0 * 10 + w) r.digits)) (sym same));
    }

-- ---- digits are the run of a list that begins with them, where no digit follows
run-tabbed : (v : ℕ) (fs : List (List ℕ)) → run_after v (tabbed fs) ≡ (v, tabbed fs)
unfolding run_after tabbed
run-tabbed v [] = refl
run-tabbed v (f ∷ fs) = refl

pub value-digit : (d : ℕ) → 48 ≤ d → d ≤ 57 → digit_value d ≡ Some (d - 48)
value-digit d l h =
    let e : 48 + (d - 48) ≡ d = omega arith in
    rw e at (digit_value-digit (d - 48) (omega arith))

pub run_read : (v : ℕ) (ds : List ℕ) (fs : List (List ℕ)) → v ≤ 65 → AllDigits ds → run_after v (ds ++ tabbed fs) ≡ (capped (value_after v ds), tabbed fs)
unfolding run_after AllDigits value_after
run_read v [] fs l h = let e : capped v ≡ v = omega arith in run-tabbed v fs ∙ rw e
run_read v (d ∷ ds) fs l h =
    rw (value-digit d h.0 h.1) (run_read (capped (v * 10 + (d - 48))) ds fs (omega arith) h.2 ∙ rw (capped_after (v * 10 + (d - 48)) ds))

pub numeral_digits : (ds : List ℕ) → Numeral ds → AllDigits ds
unfolding Numeral AllDigits
numeral_digits [] h = absurd h
numeral_digits (d ∷ ds) h = (omega arith, h.1, h.2)
