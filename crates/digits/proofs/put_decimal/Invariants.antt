-- The invariants: the digits of what is left and those that stand are all; then the list with those that are not appended is as promised.
use Rattle.std.proofs.Common.{◌≡◌, ◌+◌, ◌-◌, ◌≤◌, ◌++◌, length, drop}
use Rattle.digits.specs.Decimal.{decimal}
use Rattle.digits.proofs.Digits.{Written}
use Rattle.digits.proofs.put_decimal.Given as goal

abbrev pub invariant-loop-rest : goal.invariant-loop-rest
invariant-loop-rest g l = record {
  row : length l.digits ≡ 20;
  written : Written (l.first + 1) (drop (l.first + 1) l.digits) l.rest l.n;
}

abbrev pub decreases-loop-rest : goal.decreases-loop-rest
decreases-loop-rest g l = l.rest

abbrev pub invariant-loop-i : goal.invariant-loop-i
invariant-loop-i g l = record {
  room : length l.out.items + (20 - l.i) ≤ g.row.N;
  all : l.out.items ++ drop l.i l.digits ≡ l.initial.out.items ++ decimal l.n;
}
