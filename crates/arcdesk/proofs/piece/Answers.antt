-- `piece` takes all the bytes of a piece, or those up to a step whose output could not be written.
use Rattle.desk_stream.proofs.Pieces.{going_start, rest-shorter, going_more, going_part}
use Rattle.std.proofs.Common.{arith}
use Rattle.std.proofs.lemmas.Bool.Decides.{nat_tests}
use Rattle.arcdesk.proofs.piece.Goals as goal

pub loop-rest-init : goal.loop-rest-init
loop-rest-init c = going_start c.args.stream.now c.args.bytes.now

pub loop-rest-smaller : goal.loop-rest-smaller
loop-rest-smaller c =
    rest-shorter c.args.stream.now c.args.bytes.now c.loop-rest.rest.now _ _ _ c.step-rest.ensures.step (grind (arith, nat_tests))

pub loop-rest-preserved : goal.loop-rest-preserved
loop-rest-preserved c =
    going_more c.args.stream.now c.args.bytes.now c.loop-rest.rest.now _ _ _ c.step-rest.ensures.step c.step-rest.ensures.few c.loop-rest.invariant

pub returns-in-Err : goal.returns-in-Err
returns-in-Err c =
    let g = going_more c.args.stream.now c.args.bytes.now c.loop-rest.rest.now _ _ _ c.step-rest.ensures.step c.step-rest.ensures.few c.loop-rest.invariant in
    going_part c.args.stream.now c.args.bytes.now c.step-rest.result.now _ g _ (λ e. (cc))

pub returns : goal.returns
returns c = going_part c.args.stream.now c.args.bytes.now c.loop-rest.rest.now _ c.loop-rest.invariant _ (λ e. grind (arith, nat_tests))
