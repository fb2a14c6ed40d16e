-- `keep` leaves blanks behind the record that it takes.
use Rattle.std.proofs.Common.{arith}
use Rattle.desk.proofs.Places.{laid_few, laid_more}
use Rattle.desk.proofs.Table.keep.Goals as goal

pub invariant_of-self : goal.invariant_of-self
invariant_of-self c =
    let t = c.self.inside in
    laid_more t.places t.count c.self.invariant c.args.c (omega (arith, laid_few t.places t.count c.self.invariant, c.if-self-eq-MOST.false))
