use Rattle.std.proofs.Common.{sym, ◌∙◌, arith}
use Rattle.digits.proofs.Digits.{hex-next, hex-none}
use Rattle.digits.proofs.put_hex.Goals as goal

pub loop-digit-preserved : goal.loop-digit-preserved
loop-digit-preserved g c =
    let l = c.loop-digit in
    let next = hex-next l.out.items l.digit c.args.n (omega arith) in
    record { room = omega arith; all = rw (c.push.ensures.items, c.hex_digit.ensures) (next ∙ l.invariant.all) }

pub returns : goal.returns
returns g c =
    let l = c.loop-digit in
    sym (hex-none l.out.items l.digit c.args.n (omega arith)) ∙ l.invariant.all
