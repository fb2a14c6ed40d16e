-- `arctan::horner::nearest` meets its contract, as `std::num::nearest_u64_to_f64` does: each half is a float exactly, and their sum is n rounded once.
use Rattle.std.proofs.Common.{lit≤}
use lib.Ieee.{binary64}
use Rattle.std.proofs.num.Nearest.{halves_masked, two_to_32}
use Rattle.arctan.proofs.horner.nearest.Goals as goal

pub returns : goal.returns
returns c =
    halves_masked binary64 32 c.args.n _ two_to_32 (lit≤ tt) (lit≤ tt) c.ranges.n.fits
