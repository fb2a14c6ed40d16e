-- `root::whole::excess` meets its contract, by the laws of `Guess`.
use Rattle.std.proofs.Common.{◌+◌, ◌-◌, ◌*◌, ◌/◌, ◌%◌, ◌^◌, arith}
use Rattle.root.proofs.Guess.{excess}
use Rattle.root.proofs.whole.excess.Goals as goal

pub returns : goal.returns
returns c =
    let s = c.args.guess in
    let first = c.args.word / 2 ^ 12 + 1 - s / 2 ^ 27 * (s / 2 ^ 27) in
    let second = first * 2 ^ 27 + 2 ^ 28 - 2 * (s / 2 ^ 27) * (s % 2 ^ 27) in
    excess c.args.word s first second (omega arith) (omega arith) c.if-second-ge939524096.false
