-- `root::pattern::Number::of` meets its contract, by the laws of `Spreads`.
use Rattle.std.proofs.Common.{arith}
use Rattle.root.proofs.Spreads.{normal, subnormal, eleven}
use Rattle.root.proofs.pattern.Number.of.Goals as goal

pub overflow_sub-zeros : goal.overflow_sub-zeros
overflow_sub-zeros c = (eleven c.args.bits c.requires.0 c.if-bits-lt4503599627370496.true).0

pub returns-then-bits-lt4503599627370496 : goal.returns-then-bits-lt4503599627370496
returns-then-bits-lt4503599627370496 c =
    let low = c.if-bits-lt4503599627370496.true in
    subnormal c.args.bits _ _ c.requires.0 low (eleven c.args.bits c.requires.0 low).1 (omega arith)

pub returns : goal.returns
returns c = rw (c.digits_of.ensures, c.field.ensures) (normal c.args.bits c.if-bits-lt4503599627370496.false c.requires.1)
