use Rattle.std.proofs.Common.{ap, length, ◌+◌, append_assoc, length-append, append-nil, arith}
use Rattle.desk_print.proofs.Lines.{hit_length}
use Rattle.desk.proofs.Hits.{lines_step, lines_past}
use Rattle.desk.proofs.crossings.put_hits.Goals as goal

pub loop-i-preserved : goal.loop-i-preserved
loop-i-preserved g c =
    let l = c.loop-i in
    let h = c.from.result in
    record {
      room = omega (arith, simp length-append at (ap length c.hit_line.ensures), hit_length c.args.line (l.i + 1) h);
      lines = rw (c.hit_line.ensures, append_assoc, ← lines_step c.args.line c.args.hits.now l.i h _ (omega arith) c.from.ensures) l.invariant.lines;
    }

pub returns : goal.returns
returns g c =
    let l = c.loop-i in
    rw (lines_past c.args.line (l.i + 1) c.args.hits.now l.i (omega arith), append-nil) at l.invariant.lines
