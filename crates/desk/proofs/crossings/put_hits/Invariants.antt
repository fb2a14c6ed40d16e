-- The invariant: with the lines from hit i on, the list is as promised.
use Rattle.std.proofs.Common.{◌≡◌, ◌+◌, ◌*◌, ◌≤◌, ◌++◌, drop, length, map}
use Rattle.hits.specs.Hit.{hit_from}
use Rattle.desk_print.specs.Printed.{longest_hit_line, hit_lines}
use Rattle.desk.proofs.crossings.put_hits.Given as goal

abbrev pub invariant-loop-i : goal.invariant-loop-i
invariant-loop-i g l = record {
  room : length l.out.items ≤ length l.initial.out.items + longest_hit_line * l.i;
  lines : l.out.items ++ hit_lines l.line (l.i + 1) (map hit_from (drop l.i l.hits)) ≡ l.initial.out.items ++ hit_lines l.line 1 (map hit_from l.hits);
}
