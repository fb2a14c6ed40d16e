-- `root::pattern::root` meets its contract, by the laws of `Assemble`.
use Rattle.std.proofs.Common.{arith}
use Rattle.root.proofs.Assemble.{word_some, rooted}
use Rattle.root.proofs.pattern.root.Goals as goal

pub nearest-requires : goal.nearest-requires
nearest-requires c =
    let x = c.of-x in
    (word_some x.result.digits x.ensures.low x.ensures.high x.result.scale, omega arith, c.guess-guess.ensures.1)

pub returns : goal.returns
returns c = rooted _ _ _ _ _ c.of-x.ensures c.nearest.ensures
