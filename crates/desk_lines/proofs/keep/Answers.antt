-- `keep` keeps no more than tells that a line is malformed.
use Rattle.std.proofs.Common.{arith}
use Rattle.desk_lines.proofs.Buffer.{more_kept, past_kept}
use Rattle.desk_lines.proofs.keep.Goals as goal

pub returns-then-count-lt-KEPT-clause-kept : goal.returns-then-count-lt-KEPT-clause-kept
returns-then-count-lt-KEPT-clause-kept c = more_kept c.args.bytes.now c.args.count c.requires c.args.b (omega arith)

pub returns-clause-kept : goal.returns-clause-kept
returns-clause-kept c = past_kept c.args.bytes.now c.args.count c.requires c.args.b (omega arith)
