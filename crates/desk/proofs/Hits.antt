-- The lines of hits, each given as its numbers.
use mathlib.Core.Path.{◌≡◌, refl}
use mathlib.Core.List.{List, [], ◌∷◌, ◌++◌, map}
use Prim.Native.Nat.{ℕ, zero as nought, suc, ◌+◌, ◌≤◌, ◌<◌}
use native.Mathlib.Nat.{not-suc-le-zero}
use native.Mathlib.Numerals.{add-one}
use native.Mathlib.Omega.{arith}
use lib.ListN.{length, drop, get_or}
use lib.Seq.{drop-cons}
use lib.Ieee.{Float}
use Rattle.hits.specs.declared.CurveHit.{CurveHit}
use Rattle.hits.specs.Hit.{hit_from}
use Rattle.desk_print.specs.Printed.{hit_line, hit_lines}

-- from hit i on: the line of the hit h that stands there, and those from the next on
pub lines_step : (line : ℕ) (xs : List (List Float)) (i : ℕ) (h : CurveHit) (d : List Float) → i < length xs → h ≡ hit_from (get_or xs i d)
    → hit_lines line (i + 1) (map hit_from (drop i xs)) ≡ hit_line line (i + 1) h ++ hit_lines line (i + 1 + 1) (map hit_from (drop (i + 1) xs))
unfolding hit_lines
lines_step line xs i h d l e = rw (e, drop-cons xs i d l, add-one i) refl

pub lines_past : (line k : ℕ) (xs : List (List Float)) (i : ℕ) → length xs ≤ i → hit_lines line k (map hit_from (drop i xs)) ≡ []
unfolding hit_lines
lines_past line k [] nought h = refl
lines_past line k [] (suc i) h = refl
lines_past line k (x ∷ xs) nought l = absurd (not-suc-le-zero l)
lines_past line k (x ∷ xs) (suc i) l = lines_past line k xs i (omega arith)
