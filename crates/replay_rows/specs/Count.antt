-- One row more of a count: one more of its rows, and where the answer differs one more of those that differ. The largest number stays.
use Rattle.std.specs.Prelude.{ℕ, ◌+◌, cond, Bool, ltb}
use Rattle.replay_rows.specs.declared.tally.Count.{Count}

abbrev pub one_more : ℕ → ℕ
one_more n = cond (ltb n 0xffffffffffffffff) (n + 1) n

abbrev pub with_row : Count → Bool → Count
with_row c same = record { rows = one_more c.rows; differ = cond same c.differ (one_more c.differ) }
