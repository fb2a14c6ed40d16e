-- `root::newton::guess` meets its contract: the first guess's pattern is that of a finite number.
use native.Mathlib.Omega.{arith}
use Rattle.laws.proofs.Pattern.{finite_pattern}
use Rattle.root.proofs.newton.guess.Goals as goal

pub float_from_bits-x : goal.float_from_bits-x
float_from_bits-x c = finite_pattern c.args.bits c.requires

pub float_from_bits-first : goal.float_from_bits-first
float_from_bits-first c = finite_pattern _ (omega arith)
