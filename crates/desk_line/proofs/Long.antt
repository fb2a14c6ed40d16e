-- A long line is malformed, whatever it is.
use Rattle.std.proofs.Common.{◌≡◌, ℕ, ◌<◌, List, length, None}
use borrow.Author.Tests.{lt-ltb}
use Rattle.desk_line.specs.Read.{read_line}

pub read_long : (line : List ℕ) → 256 < length line → read_line line ≡ None
unfolding read_line
read_long line h = rw (lt-ltb 256 (length line) h)
