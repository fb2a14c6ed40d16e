use Rattle.std.proofs.Common.{refl, arith}
use Rattle.desk_lines.proofs.Hand.{going-newline, going_end, going_more}
use Rattle.desk_lines.proofs.Buffer.{line_few}
use Rattle.desk_lines.proofs.take_line.Goals as goal

pub loop-i-init : goal.loop-i-init
loop-i-init c =
    let few = line_few c.line.inside.bytes c.line.inside.count c.line.invariant c.args.line.now c.line.view_is in
    (c.line.invariant, rw c.line.view_is (record { few = few; hand = refl; read = omega arith; whole = refl }))

pub returns-then-b-eq10 : goal.returns-then-b-eq10
returns-then-b-eq10 c =
    let (read, whole, hand) = going-newline c.loop-i.invariant.1 c.loop-i-test.true c.if-b-eq10.true in
    record { takes = record { read = rw (← whole, read) refl; hand = hand }; few = line_few c.line.inside.bytes c.line.inside.count c.line.invariant c.args.line.now c.line.view_is }

pub loop-i-preserved : goal.loop-i-preserved
loop-i-preserved c =
    let k = c.keep-count in
    let few = line_few k.new.bytes k.result k.ensures.laid _ refl in
    (k.ensures.laid, going_more c.loop-i.invariant.1 c.loop-i-test.true c.if-b-eq10.false _ k.ensures.kept few)

pub returns : goal.returns
returns c =
    let (read, whole, hand) = going_end c.loop-i.invariant.1 c.loop-i-test.false c.loop-i.auto.i-end in
    record { takes = record { read = rw (← whole) refl; hand = hand }; few = line_few c.line.inside.bytes c.line.inside.count c.line.invariant c.args.line.now c.line.view_is }
