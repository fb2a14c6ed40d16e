-- What is kept of a line is read as the whole of it would be.
use mathlib.Core.Path.{◌≡◌, sym, ap, ◌∙◌}
use mathlib.Core.List.{List}
use Prim.Native.Nat.{ℕ}
use native.Mathlib.Decide.{dec_le}
use native.Mathlib.Omega.{arith}
use lib.ListN.{length}
use lib.Seq.{length-take-le}
use Rattle.desk_line.specs.Read.{read_line}
use Rattle.desk_line.proofs.Long.{read_long}
use Rattle.desk_lines.specs.Hand.{most, kept}
use Rattle.desk_lines.proofs.Kept.{kept_whole}

-- "a line above 256 bytes is malformed": so are its first 257 bytes
pub read_kept : (line : List ℕ) → read_line (kept line) ≡ read_line line
read_kept line = elim (dec_le (length line) most) [
  | yes few ↦ ap read_line (kept_whole line few)
  | no many ↦ read_long (kept line) (rw (length-take-le most line (omega arith)) (omega arith)) ∙ sym (read_long line (omega arith))
]
