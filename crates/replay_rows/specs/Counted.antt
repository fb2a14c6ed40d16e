-- How a row is counted: once among the rows of its call and of all, where it could be read; and once more where the answer differs.
use Rattle.std.specs.Prelude.{ℕ, ◌≡◌, cond, List, Bool, true, false, ltb, slice_index_or, slice_set, Option, Some, None}
use Rattle.replay_rows.specs.Count.{one_more, with_row}
use Rattle.replay_rows.specs.Number.{number_of}
use Rattle.replay_rows.specs.declared.tally.Count.{Count}
use Rattle.replay_rows.specs.declared.tally.Row.{Row}
use Rattle.replay_rows.specs.declared.tally.Row.TheVariants as row
use Rattle.replay_rows.specs.declared.tally.Tally.{Tally}

abbrev pub none : Count
none = record { rows = 0; differ = 0 }

abbrev pub raised : List Count → ℕ → Bool → List Count
raised counts i same = slice_set counts i (with_row (slice_index_or counts i none) same)

-- one more of the call, and of all, which stand at 0; a number above 25 has no count of its own
abbrev pub counted : List Count → ℕ → Bool → List Count
counted counts call same = cond (ltb call 26) (raised (raised counts 0 same) call same) (raised counts 0 same)

abbrev pub unread_after : Option Row → ℕ → ℕ
unread_after None unread = one_more unread
unread_after (Some _) unread = unread

abbrev pub counts_after : Option Row → List Count → List Count
counts_after None counts = counts
counts_after (Some (row.Same call)) counts = counted counts (number_of call) true
counts_after (Some (row.Differs call)) counts = counted counts (number_of call) false

-- THE COUNTING: the unread rows and the counts after a row, by those before it
pub record Counts (row : Option Row) (before after : Tally) : Type 0 where
  pub unread : after.unread ≡ unread_after row before.unread
  pub counts : after.counts ≡ counts_after row before.counts
