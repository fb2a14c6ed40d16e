-- `root::sqrt` meets its contract, by the laws of `Positive` and `Edges`.
use mathlib.Core.Path.{sym, ap, ◌∙◌, subst}
use lib.Dec.{T}
use lib.Ieee.{binary64, fits}
use lib.Ieee.Bits.{of_bits-to_bits}
use Rattle.root.specs.SquareRoot.{square_root}
use Rattle.laws.proofs.Pattern.{finite_pattern}
use Rattle.laws.proofs.Positive.{above_some, above_all}
use Rattle.root.proofs.Edges.{root_of_infinity, root_of-zero, root_of-none}
use Rattle.root.proofs.sqrt.Goals as goal

pub root-requires : goal.root-requires
root-requires c =
    let held : T (fits binary64 c.args.x) = subst T (sym c.well_formed.0.1) tt in
    (above_some c.args.x held c.if-x.true, c.if-bits-lt9218868437227405312.true)

pub float_from_bits-result : goal.float_from_bits-result
float_from_bits-result c = finite_pattern c.root.result c.root.ensures.finite

pub returns-then-bits-lt9218868437227405312 : goal.returns-then-bits-lt9218868437227405312
returns-then-bits-lt9218868437227405312 c =
    let held : T (fits binary64 c.args.x) = subst T (sym c.well_formed.0.1) tt in
    c.root.ensures.number ∙ ap square_root (of_bits-to_bits binary64 c.args.x held)

pub returns-then-x : goal.returns-then-x
returns-then-x c =
    let held : T (fits binary64 c.args.x) = subst T (sym c.well_formed.0.1) tt in
    let x = c.args.x in
    root_of_infinity x (above_all x held c.if-x.true c.if-bits-lt9218868437227405312.false)

pub returns-then-x-2 : goal.returns-then-x-2
returns-then-x-2 c = root_of-zero c.args.x c.if-x-2.true

pub returns : goal.returns
returns c = c.not_a_number.ensures ∙ root_of-none c.args.x c.if-x.false c.if-x-2.false
