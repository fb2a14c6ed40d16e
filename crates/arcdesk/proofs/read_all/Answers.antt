-- `read_all` knows after each piece what all the bytes so far leave.
use Rattle.std.proofs.Common.{[]}
use Rattle.desk_output.specs.Reading.{start}
use Rattle.desk_stream.proofs.Pieces.{knows_none, knows_behind}
use Rattle.arcdesk.proofs.read_all.Goals as goal

pub loop-init : goal.loop-init
loop-init c = record { bytes = []; knows = rw c.requires.begun (knows_none start) }

pub returns-in_err-read_piece : goal.returns-in_err-read_piece
returns-in_err-read_piece c = knows_behind _ c.loop.stream _ c.loop.invariant c.read_piece.ensures

pub loop-preserved : goal.loop-preserved
loop-preserved c = knows_behind _ c.loop.stream _ c.loop.invariant c.read_piece.ensures

pub returns-then-branch-eq0 : goal.returns-then-branch-eq0
returns-then-branch-eq0 c = knows_behind _ c.loop.stream _ c.loop.invariant c.read_piece.ensures
