-- What a record number that is held and a record that is taken tell of the table, whatever the count of its places.
use mathlib.Core.Path.{◌≡◌, refl}
use mathlib.Core.List.{List}
use mathlib.Core.Bool.{Bool, true, false, cond, ◌&&◌}
use Prim.Native.Nat.{ℕ, ◌≤◌, ◌<◌}
use native.Mathlib.Omega.{arith}
use borrow.Author.Tests.{ltb-true, leb-true}
use lib.Dec.{leb, ltb}
use lib.ListN.{length, take, length-take}
use Rattle.checks.specs.Refusal.{accepted, table_full, numbers_refusal}
use Rattle.curves.specs.declared.Curve.{Curve}
use Rattle.checks.specs.Given.{curve_numbers}
use Rattle.desk.specs.declared.Table.{Table}
use Rattle.desk.specs.Table.{most, held}
use Rattle.desk.specs.Refused.{record_refusal}

both : (a b : Bool) → a && b ≡ true → (a ≡ true) × (b ≡ true)
both true true e = (refl, refl)
both true false e = (refl, e)
both false b e = (e, cc)

pub held-within : (places : List Curve) (count k : ℕ) → length places ≡ most → held (take count places) k ≡ true → (0 < k) × (k ≤ count) × (k ≤ most)
unfolding held
held-within places count k full e =
    let (some, there) = both (ltb 0 k) (leb k (length (take count places))) e in
    let within = leb-true k (length (take count places)) there in
    (ltb-true 0 k some, omega (arith, length-take count places), omega (arith, length-take count places))

pub record_fits : (t : Table) (c : Curve) → record_refusal t c ≡ accepted → length t < most
unfolding record_refusal
record_fits t c e = go (ltb (length t) most) refl e
  where
    go : (b : Bool) → ltb (length t) most ≡ b → cond b (numbers_refusal (curve_numbers c)) table_full ≡ accepted → length t < most
    go true b e = ltb-true (length t) most b
    go false b e = let z : ◌≡◌ {A = ℕ} table_full accepted = e in absurd (omega arith)
