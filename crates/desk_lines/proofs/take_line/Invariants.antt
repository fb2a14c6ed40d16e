-- The bytes that are left give the same hand.
use Rattle.std.specs.Prelude.{take}
use Rattle.desk_lines.specs.Buffer.{IsLaid}
use Rattle.desk_lines.proofs.Hand.{Going}
use Rattle.desk_lines.proofs.take_line.Given as goal

abbrev pub invariant-loop-i : goal.invariant-loop-i
invariant-loop-i l = IsLaid l.line-inside.bytes l.count × Going l.fn.line l.piece l.i (take l.count l.line-inside.bytes)
