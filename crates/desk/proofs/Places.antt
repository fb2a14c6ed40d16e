-- The places of a table: blanks behind the records, one record more, and no more places than there are.
use mathlib.Core.Path.{◌≡◌, sym, ap, ◌∙◌}
use mathlib.Core.List.{List, ◌++◌}
use Prim.Native.Nat.{ℕ, suc, ◌+◌, ◌-◌, ◌≤◌, ◌<◌, min}
use native.Mathlib.Decide.{dec_le}
use native.Mathlib.Omega.{arith}
use lib.ListN.{length, take, drop, set, length-take, length-set, take-append-drop}
use lib.Seq.{take_all, length-take-le, drop-drop, drop-set-lt}
use Rattle.std.proofs.lemmas.List.{append_cancel_left}
use Rattle.curves.specs.declared.Curve.{Curve}
use Rattle.desk.specs.Table.{most}
use Rattle.desk.specs.Places.{blanks, IsLaid}

-- places with blanks behind the first n
pub laid-by : (places : List Curve) (n : ℕ) → length places ≡ most → n ≤ most → drop n places ≡ blanks (most - n) → IsLaid places n
laid-by places n full few rest =
    let counted = length-take-le n places (omega arith) in
    record {
      full = full;
      counted = counted;
      back = ap (λ (k : ℕ). take n places ++ blanks (most - k)) counted ∙ ap (λ (l : List Curve). take n places ++ l) (sym rest) ∙ take-append-drop n places;
    }

module _ (places : List Curve) (n : ℕ) (h : IsLaid places n) where
  pub laid_few : n ≤ most
  laid_few = omega (arith, h.full, h.counted, length-take n places)

  rest : drop n places ≡ blanks (most - n)
  rest = append_cancel_left (take n places) (drop n places) (blanks (most - n)) (take-append-drop n places ∙ sym h.back ∙ ap (λ (k : ℕ). take n places ++ blanks (most - k)) h.counted)

  pub laid_more : (c : Curve) → n < most → IsLaid (set places n c) (n + 1)
  laid_more c l =
      laid-by (set places n c) (n + 1) (length-set places n c ∙ h.full) (omega arith)
      (drop-set-lt (n + 1) places n c (omega arith) ∙ sym (drop-drop 1 n places) ∙ ap (drop 1) (rest ∙ ap blanks (next n l)))
    where
      next : (n : ℕ) → n < most → most - n ≡ suc (most - (n + 1))
      next n l = omega arith

-- no more places are asked for than there are
pub take-least : (n₀ n : ℕ) (places : List Curve) → length places ≡ most → n ≡ min n₀ most → take n places ≡ take n₀ places
take-least n₀ n places full e = elim (dec_le n₀ most) [
  | yes few ↦ let same : n ≡ n₀ = omega arith in ap (λ (m : ℕ). take m places) same
  | no many ↦ take_all n places (omega arith) ∙ sym (take_all n₀ places (omega arith))
]
