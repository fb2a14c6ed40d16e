-- A call has one outcome, and where it is not short it has the room that it needs.
use mathlib.Core.Path.{◌≡◌, refl, sym, ap, ◌∙◌}
use mathlib.Core.Bool.{Bool, true, false, ◌||◌}
use mathlib.Core.List.{List}
use Prim.Native.Nat.{ℕ, ◌≤◌}
use native.Mathlib.Omega.{arith}
use borrow.Author.Tests.{ltb-false}
use lib.Dec.{ltb}
use lib.ListN.{length}
use lib.Ieee.{Float}
use Rattle.std.proofs.Common.{append-nil}
use Rattle.std.specs.Prelude.{Option}
use Rattle.hits.proofs.Rooms.{written_none}
use Rattle.desk_line.specs.declared.Line.{Line}
use Rattle.desk.specs.declared.Table.{Table}
use Rattle.desk.specs.Answer.{After, room_need, out_need, short, answer}

-- nothing comes behind the list or to the room
pub ruleset unchanged = (append-nil, written_none)

-- where nothing is short the room and the list have what a line needs
pub enough_all : (room : List Float) (left : ℕ) → short room left ≡ false → (room_need ≤ length room) × (out_need ≤ left)
enough_all room left e = go (ltb (length room) room_need) (ltb left out_need) refl refl e
  where
    go : (a b : Bool) → ltb (length room) room_need ≡ a → ltb left out_need ≡ b → a || b ≡ false → (room_need ≤ length room) × (out_need ≤ left)
    go false false i j e = (ltb-false _ _ i, ltb-false _ _ j)
    go false true i j e = let never : ◌≡◌ {A = ℕ} 0 1 = cc in absurd (omega arith)
    go true b i j e = let never : ◌≡◌ {A = ℕ} 0 1 = cc in absurd (omega arith)

-- NO SECOND OUTCOME: what is answered, the table, the room and the list afterwards are fixed
pub answer_unique : (t : Table) (line : ℕ) (l : Option Line) (room : List Float) (left : ℕ) (out : List ℕ) (x y : After)
    → x ≡ answer t line l room left out → y ≡ answer t line l room left out
    → (x.result ≡ y.result) × (x.table ≡ y.table) × (x.room ≡ y.room) × (x.out ≡ y.out)
answer_unique t line l room left out x y p q =
    let same = p ∙ sym q in
    (ap (λ (z : After). z.result) same, ap (λ (z : After). z.table) same, ap (λ (z : After). z.room) same, ap (λ (z : After). z.out) same)
