-- A test of every row of the table, and of one row.
use mathlib.Core.Path.{◌≡◌, refl}
use mathlib.Core.List.{List, [], ◌∷◌}
use mathlib.Core.Bool.{Bool, true, false, ◌&&◌, false≢true}
use Prim.Native.Nat.{ℕ, zero, suc, ◌+◌, ◌<◌}
use native.Mathlib.Nat.{add-zero, zero-add, add-suc, suc-add, not-suc-le-zero}
use native.Mathlib.Omega.{arith}
use lib.ListN.{length, get_or}
use Rattle.sine_table.specs.Table.{sines, cosines}

-- the test of the rows j, j + 1, ..
unfoldable pub rows : (ℕ → ℕ → ℕ → Bool) → ℕ → List ℕ → List ℕ → Bool
rows test j [] cs = true
rows test j (s ∷ ss) [] = true
rows test j (s ∷ ss) (c ∷ cs) = test j s c && rows test (suc j) ss cs

pub first : (a b : Bool) → a && b ≡ true → a ≡ true
first true b e = refl
first false b e = e

pub second : (a b : Bool) → a && b ≡ true → b ≡ true
second true b e = e
second false b e = absurd (false≢true e)

rows_from : (test : ℕ → ℕ → ℕ → Bool) (j i : ℕ) (ss cs : List ℕ) → rows test j ss cs ≡ true → i < length ss → i < length cs →
    test (j + i) (get_or ss i 0) (get_or cs i 0) ≡ true
unfolding rows
rows_from test j i [] cs e h k = absurd (not-suc-le-zero h)
rows_from test j i (s ∷ ss) [] e h k = absurd (not-suc-le-zero k)
rows_from test j zero (s ∷ ss) (c ∷ cs) e h k = rw add-zero (first (test j s c) (rows test (suc j) ss cs) e)
rows_from test j (suc i) (s ∷ ss) (c ∷ cs) e h k =
    rw (add-suc j i, ← suc-add j i) (rows_from test (suc j) i ss cs (second (test j s c) (rows test (suc j) ss cs) e) (omega arith) (omega arith))

pub row_at_lem : (test : ℕ → ℕ → ℕ → Bool) → rows test 0 sines cosines ≡ true → (j : ℕ) → j < 102 → test j (get_or sines j 0) (get_or cosines j 0) ≡ true
unfolding sines cosines
row_at_lem test e j h = rw (zero-add j) at (rows_from test 0 j sines cosines e h h)
