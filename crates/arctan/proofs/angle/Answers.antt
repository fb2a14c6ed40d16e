-- `arctan::angle` meets its contract.
use Rattle.std.proofs.Common.{refl}
use Rattle.arctan.specs.Rule.{angle_of}
use Rattle.arctan.proofs.angle.Goals as goal

pub returns : goal.returns
unfolding angle_of
returns c =
    rw (
      c.pick.ensures,
      c.float-c.ensures,
      c.pick-n-2.ensures,
      c.pick-n.ensures,
      c.arc-n.ensures.0,
    ) refl
