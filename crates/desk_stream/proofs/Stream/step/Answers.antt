-- A step takes no more of a piece than `take_line` does.
use Rattle.std.proofs.Common.{arith}
use mathlib.Core.Path.{refl}
use native.Mathlib.Nat.{le_refl}
use lib.ListN.{length, drop_of_length-le}
use Rattle.desk_lines.proofs.First.{first-within, read_some, read_none}
use Rattle.desk_stream.specs.Step.{stepped}
use Rattle.desk_stream.proofs.Stream.step.Goals as goal

pub slice_bounds-result-start : goal.slice_bounds-result-start
slice_bounds-result-start c = omega (arith, (read_some _ _ c.in-Some.ensures.takes.read).1, first-within c.args.piece.now)

pub slice_bounds-result-count : goal.slice_bounds-result-count
slice_bounds-result-count c = omega (arith, (read_some _ _ c.in-Some.ensures.takes.read).1, first-within c.args.piece.now)

pub returns-in-None-clause-step : goal.returns-in-None-clause-step
unfolding stepped
returns-in-None-clause-step c =
    let r = read_none _ c.in-None.ensures.takes.read in
    let none = drop_of_length-le c.args.piece.now (le_refl (length c.args.piece.now)) in
    let v = c.self.view_is in
    rw (← v, r.0, r.1, none, c.take_line.ensures.takes.hand, c.clear.ensures) refl
