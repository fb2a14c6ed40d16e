-- The invariant: with the digits that are left, the list is as promised.
use Rattle.std.proofs.Common.{◌≡◌, ◌+◌, ◌≤◌, ◌++◌, length}
use Rattle.digits.specs.Hex.{hex, hex_digits}
use Rattle.digits.proofs.put_hex.Given as goal

abbrev pub invariant-loop-digit : goal.invariant-loop-digit
invariant-loop-digit g l = record {
  room : length l.out.items + l.digit ≤ g.row.N;
  all : l.out.items ++ hex_digits l.digit l.n ≡ l.initial.out.items ++ hex l.n;
}
