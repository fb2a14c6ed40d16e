-- `root::whole::by_digits` meets its contract, by the laws of `Turns`.
use Rattle.root.proofs.Turns.{Taken}
use Rattle.root.proofs.whole.by_digits.Given as goal

abbrev pub invariant-loop : goal.invariant-loop
invariant-loop l = Taken l.word l.counter l.d.root l.d.rest l.d.word
