-- The input as it comes: bytes in two parts are the parts one after the other, and what is printed for all of them is the output.
use mathlib.Core.Path.{◌≡◌, refl, sym, ap, ◌∙◌}
use mathlib.Core.Bool.{Bool, true, false, cond}
use mathlib.Core.List.{List, [], ◌∷◌, ◌++◌, append_assoc, append-nil}
use Prim.Native.Nat.{ℕ, ◌+◌, ◌≤◌, ◌<◌}
use native.Mathlib.Omega.{arith}
use borrow.Author.Tests.{lt-ltb, le-ltb}
use lib.Dec.{eqb}
use lib.ListN.{length}
use lib.Seq.{append_snoc}
use Rattle.std.specs.Prelude.{Option}
use Rattle.desk_line.specs.declared.Line.{Line}
use Rattle.desk_line.specs.Read.{read_line}
use Rattle.desk.specs.declared.Table.{Table}
use Rattle.desk.specs.Reply.{shown, table_after}
use Rattle.desk_lines.specs.Lines.{newline, begun, lines}
use Rattle.desk_output.specs.Output.{answers, output}
use Rattle.desk_output.specs.Reading.{Reading, Fed, largest, following, start, answer_of, ended, next, fed, last}
use Rattle.desk_lines.specs.Hand.{kept}
use Rattle.desk_lines.proofs.Kept.{kept_append}
use Rattle.desk_output.proofs.Kept.{read_kept}

-- ---- bytes in two parts

abbrev pub then : Fed → Fed → Fed
then x y = record { printed = x.printed ++ y.printed; reading = y.reading }

pub fed-append : (q : Reading) (xs ys : List ℕ) → fed q (xs ++ ys) ≡ then (fed q xs) (fed (fed q xs).reading ys)
unfolding fed
fed-append q [] ys = refl
fed-append q (b ∷ xs) ys =
    let one = next q b in
    ap (λ (x : Fed). then one x) (fed-append one.reading xs ys) ∙
    ap (λ (l : List ℕ). record { printed = l; reading = (fed (fed one.reading xs).reading ys).reading })
    (sym (append_assoc one.printed (fed one.reading xs).printed (fed (fed one.reading xs).reading ys).printed))

-- ---- one byte

-- the same line, longer
abbrev pub held : Reading → List ℕ → Reading
held q line = record { table = q.table; number = q.number; line = line }

-- a newline
fed-newline : (q : Reading) (b : ℕ) (bytes : List ℕ) → eqb b newline ≡ true → fed q (b ∷ bytes) ≡ then (ended q) (fed (ended q).reading bytes)
unfolding fed
fed-newline q b bytes e = rw e refl

-- a byte that is none
pub fed_byte : (q : Reading) (b : ℕ) (bytes : List ℕ) → eqb b newline ≡ false → fed q (b ∷ bytes) ≡ fed (held q (kept (q.line ++ b ∷ []))) bytes
unfolding fed
fed_byte q b bytes e = rw e refl

-- ---- all of them

-- lines behind a hand: what has begun of the first of them
abbrev alone : List ℕ → List (List ℕ)
alone [] = []
alone (b ∷ hand) = (b ∷ hand) ∷ []

abbrev behind : List ℕ → List (List ℕ) → List (List ℕ)
behind hand [] = alone hand
behind hand (line ∷ rest) = (hand ++ line) ∷ rest

behind_none : (ls : List (List ℕ)) → behind [] ls ≡ ls
behind_none [] = refl
behind_none (l ∷ ls) = refl

behind_begun : (hand : List ℕ) (b : ℕ) (ls : List (List ℕ)) → behind (hand ++ b ∷ []) ls ≡ behind hand (begun b ls)
behind_begun [] b [] = refl
behind_begun (c ∷ hand) b [] = refl
behind_begun hand b (l ∷ ls) = ap (λ (x : List ℕ). x ∷ ls) (append_snoc hand b l)

abbrev whole : Fed → List ℕ
whole x = x.printed ++ last x.reading

pub following-plain : (n : ℕ) → n < largest → following n ≡ n + 1
unfolding following
following-plain n h = rw (lt-ltb n largest h)

pub following-largest : (n : ℕ) → largest ≤ n → following n ≡ n
unfolding following
following-largest n h = rw (le-ltb n largest h)

pub last_some : (q : Reading) → 0 < length q.line → last q ≡ answer_of q
last_some q h = rw (lt-ltb 0 (length q.line) h) refl

answers_one : (t : Table) (n : ℕ) (line : List ℕ) → answers t n (line ∷ []) ≡ (shown t n (read_line line)).bytes
unfolding answers
answers_one t n line = append-nil (shown t n (read_line line)).bytes

ended_hand : (t : Table) (n : ℕ) (hand : List ℕ) → n < largest
    → ended (record { table = t; number = n; line = kept hand })
    ≡ record { printed = (shown t n (read_line hand)).bytes; reading = record { table = table_after t (read_line hand); number = n + 1; line = [] } }
ended_hand t n hand h = same (read_kept hand) (following-plain n h)
  where
    same : {l l' : Option Line} {m m' : ℕ} → l ≡ l' → m ≡ m'
        → ◌≡◌ {A = Fed} (record { printed = (shown t n l).bytes; reading = record { table = table_after t l; number = m; line = [] } })
        (record { printed = (shown t n l').bytes; reading = record { table = table_after t l'; number = m'; line = [] } })
    same d e = cc

fed-answers : (t : Table) (n : ℕ) (hand bytes : List ℕ) → n + length bytes < largest
    → whole (fed (record { table = t; number = n; line = kept hand }) bytes) ≡ answers t n (behind hand (lines bytes))
unfolding fed lines answers
fed-answers t n [] [] h = refl
fed-answers t n (b ∷ hand) [] h =
    last_some (record { table = t; number = n; line = kept (b ∷ hand) }) (omega arith) ∙ ap (λ l. (shown t n l).bytes) (read_kept (b ∷ hand)) ∙ sym (answers_one t n (b ∷ hand))
fed-answers t n hand (b ∷ bytes) h =
    go (eqb b newline) refl (fed-answers (table_after t (read_line hand)) (n + 1) [] bytes (omega arith)) (fed-answers t n (hand ++ b ∷ []) bytes (omega arith))
  where
    Answered : Table → ℕ → List ℕ → Type 0
    Answered u m line = whole (fed (record { table = u; number = m; line = kept line }) bytes) ≡ answers u m (behind line (lines bytes))

    go : (e : Bool) → eqb b newline ≡ e → Answered (table_after t (read_line hand)) (n + 1) [] → Answered t n (hand ++ b ∷ [])
        → whole (fed (record { table = t; number = n; line = kept hand }) (b ∷ bytes)) ≡ answers t n (behind hand (cond e ([] ∷ lines bytes) (begun b (lines bytes))))
    go true e ends more =
        ap whole (fed-newline (record { table = t; number = n; line = kept hand }) b bytes e ∙ ap (λ (x : Fed). then x (fed x.reading bytes)) (ended_hand t n hand (omega arith))) ∙
        append_assoc (shown t n (read_line hand)).bytes _ _ ∙
        ap (λ (l : List ℕ). (shown t n (read_line hand)).bytes ++ l) (ends ∙ ap (answers (table_after t (read_line hand)) (n + 1)) (behind_none (lines bytes))) ∙
        ap (λ (l : List ℕ). answers t n (l ∷ lines bytes)) (sym (append-nil hand))
    go false e ends more =
        ap whole (fed_byte (record { table = t; number = n; line = kept hand }) b bytes e) ∙
        ap (λ (l : List ℕ). whole (fed (record { table = t; number = n; line = l }) bytes)) (kept_append hand (b ∷ [])) ∙ (more ∙ ap (answers t n) (behind_begun hand b (lines bytes)))

-- THE OUTPUT is what is printed as the bytes come, and at their end. Fewer than 2^64 lines have numbers of 64 bits.
pub fed-output : (bytes : List ℕ) → 1 + length bytes < largest → (fed start bytes).printed ++ last (fed start bytes).reading ≡ output bytes
fed-output bytes h = fed-answers start.table 1 [] bytes h ∙ ap (answers start.table 1) (behind_none (lines bytes))
