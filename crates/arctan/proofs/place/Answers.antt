-- `arctan::place` meets its contract.
use Rattle.std.proofs.Common.{ℕ, ◌<◌, ◌≤◌, T, sym, subst, arith}
use lib.Ieee.{binary64, fits}
use Rattle.arctan.proofs.WholePart.{unit_real, unit-field, place_by_bits}
use Rattle.arctan.proofs.place.Goals as goal

below : (n : ℕ) → n < 1024 → n ≤ 1023
below n h = omega arith

pub float_to_bits-bits : goal.float_to_bits-bits
float_to_bits-bits c = unit_real c.args.u c.requires

pub overflow_sub-field : goal.overflow_sub-field
overflow_sub-field c =
    let held : T (fits binary64 c.args.u) = subst T (sym c.well_formed.0.1) tt in
    rw c.field.ensures (below _ (unit-field c.args.u c.requires held))

pub returns : goal.returns
returns c =
    let held : T (fits binary64 c.args.u) = subst T (sym c.well_formed.0.1) tt in
    let u = c.args.u in
    rw (c.digits_of.ensures, c.min-dropped.ensures, c.field.ensures) (sym (place_by_bits u c.requires held))
