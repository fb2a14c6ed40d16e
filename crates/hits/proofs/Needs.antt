-- The need of some hits, in numbers and in hits.
use mathlib.Core.Path.{◌≡◌}
use mathlib.Core.Bool.{false}
use Prim.Native.Nat.{ℕ, ◌/◌, ◌≤◌}
use native.Mathlib.Omega.{arith}
use borrow.Author.Tests.{le-ltb, ltb-false}
use Rattle.hits.specs.declared.Lengths.{Lengths}
use Rattle.hits.specs.Hit.{hit_size}
use Rattle.hits.specs.Need.{need, short}

-- what is not too short has room for so many hits
pub long_enough : (hits : ℕ) (lent : Lengths) → short hits lent ≡ false → hits ≤ lent.room / hit_size
unfolding short
long_enough hits lent e = omega (arith, ltb-false lent.room (need hits) e)

-- and what has room for so many is not too short
pub not_short : (hits : ℕ) (lent : Lengths) → need hits ≤ lent.room → short hits lent ≡ false
unfolding short
not_short hits lent fit = le-ltb lent.room (need hits) fit
