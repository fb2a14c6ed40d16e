-- From what the library tells to the numbers that an export writes.
use mathlib.Core.Path.{◌≡◌, refl, sym, ◌∙◌}
use mathlib.Core.Bool.{Bool, true, false, cond}
use mathlib.Core.List.{List, [], ◌∷◌, ◌++◌, append-nil}
use Prim.Native.Nat.{ℕ}
use lib.Dec.{eqb}
use lib.ListN.{length}
use lib.IntN.{pos}
use lib.Ieee.{Float, binary64, of_int}
use Rattle.checks.specs.Answer.{Answer, refused}
use Rattle.calls_answers.specs.Floats.{floats}
use Rattle.export_numbers.specs.Exported.{short, with_room, NumbersWritten, NumbersOut}

module _ {need number : ℕ} {told : Answer} {lent lent' : List Float} where
  -- numbers alone
  pub numbers_out : {xs : List Float} → told ≡ record { refusal = 0; numbers = xs; counts = [] } → NumbersWritten need 0 xs lent number lent' → NumbersOut need told lent number lent'
  unfolding NumbersOut floats
  numbers_out {xs} e g = rw (e, append-nil xs) g

  -- numbers, and a mark m that was made for the count n
  pub marked_out : {xs : List Float} {m n : ℕ} → told ≡ record { refusal = 0; numbers = xs; counts = n ∷ [] } → m ≡ n →
      NumbersWritten need 0 (xs ++ of_int binary64 (pos m) ∷ []) lent number lent'
      → NumbersOut need told lent number lent'
  unfolding NumbersOut floats
  marked_out e m g = rw (e, ← m) g

-- all that is told, as numbers
pub told_out : {need number : ℕ} {xs : List Float} (told : Answer) {lent lent' : List Float} → told.refusal ≡ 0 → xs ≡ told.numbers ++ floats told.counts → length xs ≡ need
    → NumbersWritten (length xs) 0 xs lent number lent' → NumbersOut need told lent number lent'
unfolding NumbersOut
told_out told a v n g = rw (a, ← v, ← n) g

-- a refusal gives no number and no other value
pub refused_out : (need : ℕ) (lent : List Float) {number n : ℕ} {told : Answer} → told ≡ refused n → number ≡ with_room n (short need (length lent)) → NumbersOut need told lent number lent
unfolding NumbersOut floats
refused_out need lent {number} e g = rw e (record { refusal = g; values = go (eqb number 0) })
  where
    go : (b : Bool) → lent ≡ cond b lent lent
    go true = refl
    go false = refl

-- ---- NO SECOND OUTCOME of an export with numbers
pub numbers-written_unique : {need n : ℕ} {numbers lent : List Float} (number number' : ℕ) (after after' : List Float) →
    NumbersWritten need n numbers lent number after → NumbersWritten need n numbers lent number' after'
    → (number ≡ number') × (after ≡ after')
numbers-written_unique number number' after after' p q =
    let same : number ≡ number' = p.refusal ∙ sym q.refusal in
    (same, p.values ∙ sym (rw same q.values))

pub numbers_out_unique : (need : ℕ) (told : Answer) (lent : List Float) (number number' : ℕ) (after after' : List Float)
    → NumbersOut need told lent number after → NumbersOut need told lent number' after' → (number ≡ number') × (after ≡ after')
unfolding NumbersOut
numbers_out_unique need told lent number number' after after' p q = numbers-written_unique number number' after after' p q
