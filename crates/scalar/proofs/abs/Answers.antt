-- `scalar::abs` meets its contract: clearing the highest bit of the pattern clears the sign.
use Rattle.std.proofs.Common.{T, ap, ◌∙◌, sym, subst}
use lib.Ieee.{binary64, fits}
use lib.Ieee.Bits.{of_bits-to_bits}
use Rattle.laws.specs.Size.{abs}
use Rattle.laws.proofs.Pattern.{of_bits_abs, abs_pattern}
use Rattle.scalar.proofs.abs.Goals as goal

pub float_from_bits-result : goal.float_from_bits-result
float_from_bits-result c =
    let held : T (fits binary64 c.args.x) = subst T (sym c.well_formed.0.1) tt in
    abs_pattern _ held (rw c.if-is_nan.false at c.is_nan.ensures.not_nan)

pub returns : goal.returns
returns c =
    let held : T (fits binary64 c.args.x) = subst T (sym c.well_formed.0.1) tt in
    of_bits_abs _ ∙ ap abs (of_bits-to_bits binary64 _ held)
