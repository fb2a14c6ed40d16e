-- The bytes of a piece, one after the other: what is left of it gives the same hand.
use mathlib.Core.Path.{◌≡◌, sym, ap, ◌∙◌}
use mathlib.Core.Bool.{true, false}
use mathlib.Core.List.{List, [], ◌∷◌, ◌++◌, append-nil}
use Prim.Native.Nat.{ℕ, suc, ◌+◌, ◌≤◌, ◌<◌}
use native.Mathlib.Numerals.{add-one}
use native.Mathlib.Omega.{arith}
use borrow.Author.Tests.{ne_eqb}
use lib.ListN.{length, get_or, drop, drop_of_length-le, length-append}
use lib.Seq.{drop-cons, append_snoc, take_all, take-append-le}
use Rattle.desk_lines.specs.Lines.{newline}
use Rattle.desk_lines.specs.Hand.{most, kept, before, ends, first, hand_of}
use Rattle.desk_lines.proofs.Kept.{kept_append, kept_whole}

-- at the place i
pub record Going (line₀ piece : List ℕ) (i : ℕ) (line : List ℕ) : Type 0 where
  pub few : length line ≤ most
  pub hand : hand_of line (drop i piece) ≡ hand_of line₀ piece
  pub read : i + length (first (drop i piece)) ≡ length (first piece)
  pub whole : ends (drop i piece) ≡ ends piece

module _ {line₀ piece : List ℕ} {i : ℕ} {line : List ℕ} (g : Going line₀ piece i line) where
  pub going-newline : i < length piece → get_or piece i 0 ≡ newline → (i + 1 ≡ length (first piece)) × (true ≡ ends piece) × (line ≡ hand_of line₀ piece)
  unfolding before first ends
  going-newline h e =
      let rest : drop i piece ≡ newline ∷ drop (suc i) piece = drop-cons piece i 0 h ∙ ap (λ (b : ℕ). b ∷ drop (suc i) piece) e in
      (rw rest at g.read, rw rest at g.whole, sym (kept_whole line g.few) ∙ ap kept (sym (append-nil line)) ∙ rw rest at g.hand)

  pub going_end : length piece ≤ i → i ≤ length piece → (length piece ≡ length (first piece)) × (false ≡ ends piece) × (line ≡ hand_of line₀ piece)
  unfolding before first ends
  going_end h l =
      let rest : drop i piece ≡ [] = drop_of_length-le piece h in
      let same : i ≡ length piece = omega arith in
      (omega (arith, rw rest at g.read), rw rest at g.whole, sym (kept_whole line g.few) ∙ ap kept (sym (append-nil line)) ∙ rw rest at g.hand)

  pub going_more : i < length piece → (get_or piece i 0 ≡ newline → ⊥) → (line' : List ℕ) → line' ≡ kept (line ++ get_or piece i 0 ∷ []) → length line' ≤ most → Going line₀ piece (i + 1) line'
  unfolding before first ends
  going_more h n line' e few =
      let b = get_or piece i 0 in
      let left = drop (i + 1) piece in
      let rest : drop i piece ≡ b ∷ left = drop-cons piece i 0 h ∙ ap (λ (k : ℕ). b ∷ drop k piece) (sym (add-one i)) in
      let tested = ne_eqb b newline n in
      record {
        few = few;
        hand = ap (λ (l : List ℕ). kept (l ++ before left)) e ∙ kept_append (line ++ b ∷ []) (before left) ∙ ap kept (append_snoc line b (before left)) ∙ rw (rest, tested) at g.hand;
        read = omega (arith, rw (rest, tested) at g.read);
        whole = rw (rest, tested) at g.whole;
      }

-- a byte more of a line that is not full, or none
pub push_kept : (line : List ℕ) (b : ℕ) → length line < most → line ++ b ∷ [] ≡ kept (line ++ b ∷ [])
push_kept line b h = sym (kept_whole (line ++ b ∷ []) (simp length-append (omega arith)))

pub full_kept : (line : List ℕ) (b : ℕ) → length line ≡ most → line ≡ kept (line ++ b ∷ [])
full_kept line b h = sym (take-append-le most line (b ∷ []) (omega arith) ∙ take_all most line (omega arith))
