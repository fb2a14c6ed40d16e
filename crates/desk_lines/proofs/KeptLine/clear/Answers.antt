-- `clear` leaves zeros alone.
use Rattle.std.proofs.Common.{rules, ◌≡◌, arith}
use lib.ListN.{replicate}
use Rattle.desk_lines.proofs.Buffer.{laid_zeros}
use Rattle.desk_lines.proofs.KeptLine.clear.Goals as goal

pub invariant_of-self : goal.invariant_of-self
invariant_of-self c =
    let b = c.self.inside in
    let filled : c.fill.new.self ≡ replicate b.count 0 = search rules in
    rw filled (laid_zeros b.bytes b.count c.self.invariant _ (omega arith))
