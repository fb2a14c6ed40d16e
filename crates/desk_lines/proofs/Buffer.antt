-- The buffer of the line at hand: what it gives back, none, one byte more.
use mathlib.Core.Path.{◌≡◌, refl, sym, ap, ◌∙◌}
use mathlib.Core.List.{List, [], ◌∷◌, ◌++◌}
use Prim.Native.Nat.{ℕ, suc, ◌+◌, ◌-◌, ◌≤◌, ◌<◌, min}
use native.Mathlib.Decide.{dec_le}
use native.Mathlib.Omega.{arith}
use lib.ListN.{length, take, drop, set, length-take, length-set, length-replicate, take-append-drop, replicate-append-replicate}
use lib.Seq.{take_all, length-take-le, drop-drop, drop-set-lt}
use Rattle.std.proofs.lemmas.List.{append_cancel_left, drop_at, take_more_set}
use Rattle.desk_lines.specs.Hand.{most, kept}
use Rattle.desk_lines.specs.Buffer.{zeros, IsLaid}
use Rattle.desk_lines.proofs.Hand.{push_kept, full_kept}

-- a buffer with zeros behind the first n bytes
pub laid-by : (bytes : List ℕ) (n : ℕ) → length bytes ≡ most → n ≤ most → drop n bytes ≡ zeros (most - n) → IsLaid bytes n
laid-by bytes n full few rest =
    let counted = length-take-le n bytes (omega arith) in
    record {
      full = full;
      counted = counted;
      back = ap (λ (k : ℕ). take n bytes ++ zeros (most - k)) counted ∙ ap (λ (l : List ℕ). take n bytes ++ l) (sym rest) ∙ take-append-drop n bytes;
    }

module _ (bytes : List ℕ) (n : ℕ) (h : IsLaid bytes n) where
  pub laid_few : n ≤ most
  laid_few = omega (arith, h.full, h.counted, length-take n bytes)

  pub line_few : (line : List ℕ) → take n bytes ≡ line → length line ≤ most
  line_few line e = omega (arith, laid_few, h.counted, ap length e)

  rest : drop n bytes ≡ zeros (most - n)
  rest = append_cancel_left (take n bytes) (drop n bytes) (zeros (most - n)) (take-append-drop n bytes ∙ sym h.back ∙ ap (λ (k : ℕ). take n bytes ++ zeros (most - k)) h.counted)

  -- zeros over the bytes, whatever the count
  pub laid_zeros : (m : ℕ) → m ≤ most → IsLaid (zeros n ++ drop n bytes) m
  laid_zeros m small =
      let all : zeros n ++ drop n bytes ≡ zeros most = ap (λ (l : List ℕ). zeros n ++ l) rest ∙ replicate-append-replicate n (most - n) 0 ∙ ap zeros (up n laid_few) in
      let parts : zeros m ++ zeros (most - m) ≡ zeros most = replicate-append-replicate m (most - m) 0 ∙ ap zeros (up m small) in
      rw all (laid-by (zeros most) m refl small (ap (drop m) (sym parts) ∙ drop_at (zeros m) (zeros (most - m)) m (length-replicate {A = ℕ} m 0)))
    where
      up : (k : ℕ) → k ≤ most → k + (most - k) ≡ most
      up k few = omega arith

  -- a byte more where the buffer is not full
  pub laid_more : (b : ℕ) → n < most → IsLaid (set bytes n b) (n + 1)
  laid_more b l =
      laid-by (set bytes n b) (n + 1) (length-set bytes n b ∙ h.full) (omega arith)
      (drop-set-lt (n + 1) bytes n b (omega arith) ∙ sym (drop-drop 1 n bytes) ∙ ap (drop 1) (rest ∙ ap zeros (next n l)))
    where
      next : (n : ℕ) → n < most → most - n ≡ suc (most - (n + 1))
      next n l = omega arith

  pub more_kept : (b : ℕ) → n < most → take (n + 1) (set bytes n b) ≡ kept (take n bytes ++ b ∷ [])
  more_kept b l = take_more_set bytes n b (omega (arith, h.full)) ∙ push_kept (take n bytes) b (omega (arith, h.counted))

  pub past_kept : (b : ℕ) → most ≤ n → take n bytes ≡ kept (take n bytes ++ b ∷ [])
  past_kept b l = full_kept (take n bytes) b (omega (arith, h.counted, laid_few))

-- no more of the buffer is asked for than it has
pub take-least : (n₀ n : ℕ) (line : List ℕ) → length line ≡ most → n ≡ min n₀ most → take n line ≡ take n₀ line
take-least n₀ n line full e = elim (dec_le n₀ most) [
  | yes few ↦ let same : n ≡ n₀ = omega arith in ap (λ (m : ℕ). take m line) same
  | no many ↦ take_all n line (omega arith) ∙ sym (take_all n₀ line (omega arith))
]
