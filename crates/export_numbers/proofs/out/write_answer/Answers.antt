-- `export_numbers::out::write_answer` meets its contract.
use mathlib.Core.Path.{ap}
use native.Mathlib.Omega.{arith}
use Rattle.checks.specs.Answer.{told}
use Rattle.export_numbers.proofs.Written.{told_out, refused_out}
use Rattle.export_numbers.proofs.out.write_answer.Goals as goal

pub numbers-requires : goal.numbers-requires
numbers-requires g c = let few = g.met.T.Numbers.few in omega arith

pub shared_whole_as_slice-write : goal.shared_whole_as_slice-write
shared_whole_as_slice-write g c = let few = g.met.T.Numbers.few in omega arith

pub returns-in-Ok : goal.returns-in-Ok
returns-in-Ok g c =
    rw c.in-Ok.is
    (told_out _ (g.met.T.Numbers.accepts c.in-Ok.x) c.numbers.ensures.values c.numbers.ensures.count c.write.ensures)

pub returns-in-Err : goal.returns-in-Err
returns-in-Err g c = refused_out _ _ (ap (told g.T.Numbers.says) c.in-Err.is) (rw c.from.ensures at c.refuse.ensures)
