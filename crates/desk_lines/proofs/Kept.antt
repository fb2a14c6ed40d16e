-- What is kept of a line: bytes are added to it as to the whole.
use mathlib.Core.Path.{◌≡◌, refl, ap}
use mathlib.Core.List.{List, [], ◌∷◌, ◌++◌}
use Prim.Native.Nat.{ℕ, zero, suc, ◌≤◌}
use lib.ListN.{length, take}
use lib.Seq.{take_all}
use Rattle.desk_lines.specs.Hand.{most, kept}

take_front : (n : ℕ) (xs ys : List ℕ) → take n (take n xs ++ ys) ≡ take n (xs ++ ys)
take_front zero xs ys = refl
take_front (suc n) [] ys = refl
take_front (suc n) (x ∷ xs) ys = ap (λ (l : List ℕ). x ∷ l) (take_front n xs ys)

pub kept_append : (xs ys : List ℕ) → kept (kept xs ++ ys) ≡ kept (xs ++ ys)
kept_append xs ys = take_front most xs ys

pub kept_whole : (xs : List ℕ) → length xs ≤ most → kept xs ≡ xs
kept_whole xs few = take_all most xs few
