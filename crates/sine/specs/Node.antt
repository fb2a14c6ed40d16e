-- The node. The angle n at 2 ^ 61 is taken from the nearest of the nodes j / 16; what is left is the rest, at most 1 / 32, at 2 ^ 66.
use Rattle.std.specs.Prelude.{ℕ, ◌+◌, ◌-◌, ◌*◌, ◌/◌, ◌^◌, Bool, cond, nat_lt}

-- the number j of the nearest node
unfoldable pub node : ℕ → ℕ
node n = (n + 2 ^ 56) / 2 ^ 57

-- whether the angle lies below it
unfoldable pub under : ℕ → Bool
under n = nat_lt n (node n * 2 ^ 57)

-- the distance of n and c, both at 2 ^ 61, at 2 ^ 66
unfoldable pub apart : ℕ → ℕ → ℕ
apart n c = cond (nat_lt n c) ((c - n) * 2 ^ 5) ((n - c) * 2 ^ 5)

unfoldable pub rest : ℕ → ℕ
rest n = apart n (node n * 2 ^ 57)
