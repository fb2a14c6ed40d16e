-- `root::whole::by_guess` meets its contract, by the laws of `Guess`.
use Rattle.root.proofs.Guess.{choice}
use Rattle.root.proofs.whole.by_guess.Goals as goal

pub returns : goal.returns
returns c =
    rw (c.from.ensures, c.from-2.ensures)
    (choice _ c.in_ok-over.over c.args.guess c.requires.0 c.in_ok-over.ensures.1 c.if-over-guess-le72057594037927938.false c.if-over-guess.false)
