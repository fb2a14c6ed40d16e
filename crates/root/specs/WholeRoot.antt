-- 01, 'Roots and angles': "nearest, ties to even, stated over the whole number of the significand." The whole number nearest to the root of a whole number.
use Prim.Native.Nat.{ℕ, zero, suc, ◌+◌, ◌-◌, ◌*◌, ◌/◌, compare}
use Rattle.std.specs.Prelude.{cond, leb}
use Rattle.std.specs.Float.Ieee.{nearest}

-- One binary digit more: of 2 * q and 2 * q + 1 the larger whose square is at most n.
unfoldable pub digit : ℕ → ℕ → ℕ
digit n q = cond (leb (suc (2 * q) * suc (2 * q)) n) (suc (2 * q)) (2 * q)

-- The whole part of the root of an n below 4 ^ k, which has at most k binary digits. All but the last are those of the root of n / 4.
unfoldable pub floor_root : ℕ → ℕ → ℕ
unfolding digit
floor_root zero n = 0
floor_root (suc k) n = digit n (floor_root k (n / 4))

-- q, the whole part of the root of n, or q + 1: by how n compares with the square of the middle, q * q + q + 1 / 4, and at a tie the even one.
abbrev pub closer : ℕ → ℕ → ℕ
closer n q = nearest q (compare (4 * (n - q * q)) (4 * q + 1))

-- The whole number nearest to the root of an n below 4 ^ k.
unfoldable pub nearest_root : ℕ → ℕ → ℕ
unfolding floor_root
nearest_root k n = closer n (floor_root k n)
