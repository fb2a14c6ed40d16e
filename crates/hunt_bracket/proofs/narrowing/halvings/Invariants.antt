-- `narrowing::halvings` halves 60 times.
use mathlib.Core.Path.{◌≡◌}
use Prim.Native.Nat.{◌≤◌, ◌-◌}
use Rattle.hunt_bracket.specs.Frame.{value}
use Rattle.hunt_bracket.specs.Narrow.{narrowed}
use Rattle.hunt_bracket.proofs.narrowing.halvings.Given as goal

abbrev pub invariant-loop : goal.invariant-loop
invariant-loop l = (l.counter ≤ 60) × (l.s ≡ narrowed (value l.f) l.counter l.initial.s)

abbrev pub decreases-loop : goal.decreases-loop
decreases-loop l = 60 - l.counter
