-- How code comes to an answer: past the tests with its values, or out of them with a refusal and none.
use mathlib.Core.Path.{◌≡◌, refl, sym, ap}
use mathlib.Core.List.{List}
use Prim.Native.Nat.{ℕ}
use borrow.Author.Tests.{ne_eqb}
use lib.Ieee.{Float}
use Rattle.std.specs.Prelude.{Result, Ok, Err, IsErrAnd}
use Rattle.checks.specs.declared.Refusal.{Refusal}
use Rattle.checks.specs.Refusal.{accepted, number_of}
use Rattle.checks.specs.Answer.{Answer, answered, refused, told, withheld}
use Rattle.checks.proofs.Outcomes.{number_of_refuses}

pub withheld_accepted : (n : ℕ) (a : Answer) → accepted ≡ n → a ≡ withheld n a
withheld_accepted n a e = rw (sym e) refl

pub withheld_refused : (r : Refusal) (n : ℕ) (a : Answer) → number_of r ≡ n → refused (number_of r) ≡ withheld n a
withheld_refused r n a e = rw (sym e, ne_eqb _ _ (number_of_refuses r)) refl

pub answered_accepted : (n : ℕ) (numbers : List Float) (counts : List ℕ) → accepted ≡ n
    → record { refusal = accepted; numbers = numbers; counts = counts } ≡ answered n numbers counts
unfolding answered
answered_accepted n numbers counts e = withheld_accepted n _ e

pub answered_refused : (r : Refusal) (n : ℕ) (numbers : List Float) (counts : List ℕ) → number_of r ≡ n → refused (number_of r) ≡ answered n numbers counts
unfolding answered
answered_refused r n numbers counts e = withheld_refused r n _ e

-- what a `?` gives back
pub told_refused : {A : Type 0} (says : A → Answer) (r : Result A Refusal) (e : Refusal) → IsErrAnd r (λ x. x ≡ e) → told says r ≡ refused (number_of e)
told_refused says (Ok x) e h = elim h [ ]
told_refused says (Err x) e h = ap (λ (y : Refusal). refused (number_of y)) h
