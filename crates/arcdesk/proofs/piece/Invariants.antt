-- What is known is what the bytes up to those that are left leave.
use Rattle.std.proofs.Common.{length}
use Rattle.desk_stream.proofs.Pieces.{Going}
use Rattle.arcdesk.proofs.piece.Given as goal

abbrev pub invariant-loop-rest : goal.invariant-loop-rest
invariant-loop-rest l = Going l.fn.stream l.bytes l.rest l.stream

abbrev pub decreases-loop-rest : goal.decreases-loop-rest
decreases-loop-rest l = length l.rest
