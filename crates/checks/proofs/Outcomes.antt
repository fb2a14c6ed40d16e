-- NO SECOND OUTCOME: an answer is fixed by what it tells, so that a contract on what is told fixes the answer.
use mathlib.Core.Path.{◌≡◌, refl, sym, ap, ◌∙◌}
use mathlib.Core.Bool.{cond}
use mathlib.Core.List.{List}
use Prim.Native.Nat.{ℕ}
use native.Mathlib.Omega.{arith}
use lib.ListN.{get_or}
use lib.Ieee.{Float, nan}
use Rattle.std.specs.Prelude.{eqb, Result, Ok, Err, ⊤}
use Rattle.curves.specs.declared.Point.{Point}
use Rattle.curves.specs.declared.Radii.{Radii}
use Rattle.hits.specs.declared.Tally.{Tally}
use Rattle.checks.specs.declared.Refusal.{Refusal}
use Rattle.checks.specs.declared.Refusal.TheVariants.{NotANumber, BeyondLimit, TooDeep, RoomTooShort, Degenerate, OutsideSpan, MalformedLine, NoSuchRecord, TableFull}
use Rattle.checks.specs.Refusal.{accepted, number_of, refusal_told}
use Rattle.checks.specs.Answer.{Answer, told, number_told, pair_told, radii_told, found_told, hunted_told}

-- ---- a refusal is fixed by its number, which is never that of an accepted call

-- the refusal of a number
numbered : ℕ → Refusal
numbered n =
    cond (eqb n 1) NotANumber (cond (eqb n 2) BeyondLimit (cond (eqb n 3) TooDeep (cond (eqb n 4) RoomTooShort (cond (eqb n 5) Degenerate
    (cond (eqb n 6) OutsideSpan (cond (eqb n 7) MalformedLine (cond (eqb n 8) NoSuchRecord TableFull)))))))

numbered_number : (r : Refusal) → numbered (number_of r) ≡ r
unfolding numbered
numbered_number NotANumber = refl
numbered_number BeyondLimit = refl
numbered_number TooDeep = refl
numbered_number RoomTooShort = refl
numbered_number Degenerate = refl
numbered_number OutsideSpan = refl
numbered_number MalformedLine = refl
numbered_number NoSuchRecord = refl
numbered_number TableFull = refl

pub number_of_unique : (r s : Refusal) → number_of r ≡ number_of s → r ≡ s
number_of_unique r s e = sym (numbered_number r) ∙ (ap numbered e ∙ numbered_number s)

pub number_of_refuses : (r : Refusal) → number_of r ≡ accepted → ⊥
number_of_refuses NotANumber e = omega arith
number_of_refuses BeyondLimit e = omega arith
number_of_refuses TooDeep e = omega arith
number_of_refuses RoomTooShort e = omega arith
number_of_refuses Degenerate e = omega arith
number_of_refuses OutsideSpan e = omega arith
number_of_refuses MalformedLine e = omega arith
number_of_refuses NoSuchRecord e = omega arith
number_of_refuses TableFull e = omega arith

-- a test that is asked alone: two answers that its contract allows are one
pub refusal_told_unique : (r s : Result ⊤ Refusal) → refusal_told r ≡ refusal_told s → r ≡ s
refusal_told_unique (Ok x) (Ok y) e = refl
refusal_told_unique (Ok x) (Err s) e = absurd (number_of_refuses s (sym e))
refusal_told_unique (Err r) (Ok y) e = absurd (number_of_refuses r e)
refusal_told_unique (Err r) (Err s) e = ap Err (number_of_unique r s e)

-- ---- a value that says all of itself and no refusal

pub record Says {A : Type 0} (says : A → Answer) : Type 0 where
  pub accepts : (x : A) → (says x).refusal ≡ accepted
  pub whole : (x y : A) → says x ≡ says y → x ≡ y

pub told_unique : {A : Type 0} (says : A → Answer) → Says says → (r s : Result A Refusal) → told says r ≡ told says s → r ≡ s
told_unique says h (Ok x) (Ok y) e = ap Ok (h.whole x y e)
told_unique says h (Ok x) (Err r) e = absurd (number_of_refuses r (sym (ap (λ (a : Answer). a.refusal) e) ∙ h.accepts x))
told_unique says h (Err r) (Ok x) e = absurd (number_of_refuses r (ap (λ (a : Answer). a.refusal) e ∙ h.accepts x))
told_unique says h (Err r) (Err s) e = ap Err (number_of_unique r s (ap (λ (a : Answer). a.refusal) e))

-- ---- the answers of this crate

pub number_told_unique : (r s : Result Float Refusal) → number_told r ≡ number_told s → r ≡ s
number_told_unique = told_unique _ (record { accepts = λ _. refl; whole = λ x y e. ap (λ (a : Answer). get_or a.numbers 0 nan) e })

-- two numbers, in order, as what they are
abbrev paired : {A : Type 0} → (Float → Float → A) → Answer → A
paired made a = made (get_or a.numbers 0 nan) (get_or a.numbers 1 nan)

pub pair_told_unique : (r s : Result Point Refusal) → pair_told r ≡ pair_told s → r ≡ s
pair_told_unique = told_unique _ (record { accepts = λ _. refl; whole = λ p q e. ap (paired (λ x y. record { x = x; y = y })) e })

pub radii_told_unique : (r s : Result Radii Refusal) → radii_told r ≡ radii_told s → r ≡ s
radii_told_unique = told_unique _ (record { accepts = λ _. refl; whole = λ p q e. ap (paired (λ a b. record { a = a; b = b })) e })

pub found_told_unique : (r s : Result ℕ Refusal) → found_told r ≡ found_told s → r ≡ s
found_told_unique = told_unique _ (record { accepts = λ _. refl; whole = λ k l e. ap (λ (a : Answer). get_or a.counts 0 0) e })

-- six counts in a row, as a tally
abbrev pub tallied : List ℕ → Tally
tallied l =
    record {
      hits = get_or l 0 0;
      brackets = get_or l 1 0;
      outside_a = get_or l 2 0;
      outside_b = get_or l 3 0;
      doubles = get_or l 4 0;
      evaluations = get_or l 5 0;
    }

pub hunted_told_unique : (r s : Result Tally Refusal) → hunted_told r ≡ hunted_told s → r ≡ s
hunted_told_unique = told_unique _ (record { accepts = λ _. refl; whole = λ t u e. ap (λ (a : Answer). tallied a.counts) e })

-- a call without a room: two answers that its contract allows are one
module _ (a : Answer) where
  pub number_unique : (r s : Result Float Refusal) → number_told r ≡ a → number_told s ≡ a → r ≡ s
  number_unique r s p q = number_told_unique r s (p ∙ sym q)

  pub pair_unique : (r s : Result Point Refusal) → pair_told r ≡ a → pair_told s ≡ a → r ≡ s
  pair_unique r s p q = pair_told_unique r s (p ∙ sym q)

  pub radii_unique : (r s : Result Radii Refusal) → radii_told r ≡ a → radii_told s ≡ a → r ≡ s
  radii_unique r s p q = radii_told_unique r s (p ∙ sym q)
