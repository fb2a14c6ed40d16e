-- `read_piece` knows what the bytes of a piece leave, as far as they were taken, or, where none could be read, what it knew.
use Rattle.std.proofs.Common.{[]}
use Rattle.desk_stream.proofs.Pieces.{knows_none}
use Rattle.arcdesk.proofs.read_piece.Goals as goal

pub returns-in_err-n : goal.returns-in_err-n
returns-in_err-n c = record { bytes = []; knows = knows_none c.args.stream.now }
