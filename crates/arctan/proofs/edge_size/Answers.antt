-- `arctan::edge_size` meets its contract.
use Rattle.std.proofs.Common.{◌≡◌, T, sym, refl, subst}
use lib.Ieee.{Float, nan, inf, fin}
use Rattle.std.specs.Float.{float_is_infinite}
use Rattle.laws.specs.Kind.{is_infinite}
use Rattle.arctan.specs.Rule.{edge_size}
use Rattle.laws.proofs.Kind.{zero_is}
use Rattle.arctan.proofs.edge_size.Goals as goal

-- `f64::is_infinite` as the rule says it
infinite_is : (x : Float) → float_is_infinite x ≡ is_infinite x
unfolding float_is_infinite
infinite_is nan = refl
infinite_is (inf s) = refl
infinite_is (fin s m e) = refl

pub returns : goal.returns
unfolding edge_size
returns c =
    rw (
      c.pick-3.ensures,
      c.pick-2.ensures,
      c.pick.ensures,
      c.is_infinite.ensures.value,
      c.is_infinite-far.ensures.value,
      infinite_is c.args.y,
      infinite_is c.args.x,
      c.pick-corner.ensures,
      c.pick-level.ensures,
      c.is_negative-behind.ensures,
      zero_is c.args.y (subst T (sym c.well_formed.0.1) tt),
    ) refl
