-- The bytes that a step takes: those before the newline and the newline; they are the next ones, and at least one.
use mathlib.Core.Path.{◌≡◌, refl, sym, ap, ◌∙◌}
use mathlib.Core.Bool.{Bool, true, false, cond}
use mathlib.Core.List.{List, [], ◌∷◌, ◌++◌}
use Prim.Native.Nat.{ℕ, ◌+◌, ◌≤◌, ◌<◌}
use native.Mathlib.Omega.{arith}
use borrow.Author.Tests.{eqb-true}
use lib.Dec.{eqb}
use lib.ListN.{length, take, drop, length-append}
use lib.Seq.{take-append_seam, take-add}
use Rattle.desk_lines.specs.Lines.{newline}
use Rattle.std.specs.Prelude.{Option, Some, None, is_some, unwrap_or}
use Rattle.std.proofs.Common.{true≢false}
use Rattle.desk_lines.specs.Hand.{before, ends, first, read_of}

pub first-before : (bytes : List ℕ) → first bytes ≡ cond (ends bytes) (before bytes ++ newline ∷ []) (before bytes)
unfolding first before ends
first-before [] = refl
first-before (b ∷ bytes) = go (eqb b newline) refl (first-before bytes)
  where
    go : (e : Bool) → eqb b newline ≡ e → first bytes ≡ cond (ends bytes) (before bytes ++ newline ∷ []) (before bytes)
        → b ∷ cond e [] (first bytes) ≡ cond (cond e true (ends bytes)) (cond e [] (b ∷ before bytes) ++ newline ∷ []) (cond e [] (b ∷ before bytes))
    go true e more = ap (λ (x : ℕ). x ∷ []) (eqb-true b newline e)
    go false e more = ap (λ (l : List ℕ). b ∷ l) more ∙ moved (ends bytes)
      where
        moved : (c : Bool) → b ∷ cond c (before bytes ++ newline ∷ []) (before bytes) ≡ cond c ((b ∷ before bytes) ++ newline ∷ []) (b ∷ before bytes)
        moved true = refl
        moved false = refl

-- with no newline they are all
pub first_all : (bytes : List ℕ) → ends bytes ≡ false → first bytes ≡ bytes
unfolding first ends
first_all [] e = refl
first_all (b ∷ bytes) e = go (eqb b newline) e (first_all bytes)
  where
    go : (n : Bool) → cond n true (ends bytes) ≡ false → (ends bytes ≡ false → first bytes ≡ bytes) → b ∷ cond n [] (first bytes) ≡ b ∷ bytes
    go true e more = cc
    go false e more = ap (λ (l : List ℕ). b ∷ l) (more e)

-- the rest of the bytes is behind them
pub parted : (bytes : List ℕ) → bytes ≡ first bytes ++ drop (length (first bytes)) bytes
unfolding first
parted [] = refl
parted (b ∷ bytes) = go (eqb b newline) (parted bytes)
  where
    go : (e : Bool) → bytes ≡ first bytes ++ drop (length (first bytes)) bytes → b ∷ bytes ≡ (b ∷ cond e [] (first bytes)) ++ drop (length (cond e [] (first bytes))) bytes
    go true more = refl
    go false more = ap (λ (l : List ℕ). b ∷ l) more

pub first-within : (bytes : List ℕ) → length (first bytes) ≤ length bytes
first-within bytes = omega (arith, ap length (parted bytes), length-append (first bytes) (drop (length (first bytes)) bytes))

pub first_some : (bytes : List ℕ) → 0 < length bytes → 0 < length (first bytes)
unfolding first
first_some [] h = h
first_some (b ∷ bytes) h = omega arith

-- a step further in a piece
pub take-first : (piece : List ℕ) (at : ℕ) → take (at + length (first (drop at piece))) piece ≡ take at piece ++ first (drop at piece)
take-first piece at =
    let rest = drop at piece in
    take-add at (length (first rest)) piece ∙
    ap (λ (l : List ℕ). take at piece ++ l) (ap (take (length (first rest))) (parted rest) ∙ take-append_seam (first rest) (drop (length (first rest)) rest))

-- ---- what the answer of `take_line` tells

pub read_some : (bytes : List ℕ) (k : ℕ) → Some k ≡ read_of bytes → (ends bytes ≡ true) × (k ≡ length (first bytes))
read_some bytes k e = go (ends bytes) refl e
  where
    go : (b : Bool) → ends bytes ≡ b → Some k ≡ cond b (Some (length (first bytes))) None → (ends bytes ≡ true) × (k ≡ length (first bytes))
    go true i h = (i, ap (λ (o : Option ℕ). unwrap_or o 0) h)
    go false i h = absurd (true≢false (ap (λ (o : Option ℕ). is_some o) h))

pub read_none : (bytes : List ℕ) → None ≡ read_of bytes → (ends bytes ≡ false) × (first bytes ≡ bytes)
read_none bytes e = go (ends bytes) refl e
  where
    go : (b : Bool) → ends bytes ≡ b → ◌≡◌ {A = Option ℕ} None (cond b (Some (length (first bytes))) None) → (ends bytes ≡ false) × (first bytes ≡ bytes)
    go true i h = absurd (true≢false (sym (ap (λ (o : Option ℕ). is_some o) h)))
    go false i h = (i, first_all bytes i)
