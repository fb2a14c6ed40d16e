-- `arctan::rare` meets its contract.
use Rattle.std.proofs.Common.{◌≡◌, Bool, not, ◌&&◌, T, sym, ◌∙◌, subst}
use lib.Ieee.{Float, binary64, fits, div, lt, le}
use Rattle.laws.specs.Literal.{zero, largest}
use Rattle.arctan.specs.Sizes.{InUnit}
use Rattle.arctan.specs.Rule.{tiny, steep_of, smaller, larger, ratio}
use Rattle.arctan.proofs.Tests.{tested}
use Rattle.arctan.proofs.Ratio.{ratio-unit}
use Rattle.arctan.proofs.Slight.{quick}
use Rattle.arctan.proofs.Sized.{quotient_is, test_is, quick_is, angle-at}
use Rattle.arctan.proofs.Cases.{by_edge, by_quotient, by_angle}
use Rattle.arctan.proofs.rare.Goals as goal

module _ (y x low high : Float) (least : low ≡ smaller y x) (most : high ≡ larger y x) where
  test : tested y x ≡ (lt zero low && le high largest)
  test = sym (test_is y x low high least most)

  quotient : div binary64 low high ≡ ratio y x
  quotient = quotient_is y x low high least most

  slight : (steep : Bool) → steep ≡ steep_of y x → quick y x ≡ (not steep && (lt zero x && lt (div binary64 low high) tiny))
  slight steep s = sym (quick_is y x s quotient)

pub returns-then-steep-x : goal.returns-then-steep-x
returns-then-steep-x c =
    let a = c.args in
    let r = c.requires in
    let held_y : T (fits binary64 a.y) = subst T (sym c.well_formed.0.1) tt in
    let held_x : T (fits binary64 a.x) = subst T (sym c.well_formed.1.0.1) tt in
    sym (by_quotient a.y a.x held_y held_x (test a.y a.x a.low a.high r.1 r.2 ∙ c.if-low-high.true) (slight a.y a.x a.low a.high r.1 r.2 a.steep r.0 ∙ c.if-steep-x.true))

pub angle-requires : goal.angle-requires
angle-requires c =
    let a = c.args in
    let r = c.requires in
    subst InUnit (sym (quotient a.y a.x a.low a.high r.1 r.2)) (ratio-unit a.y a.x (test a.y a.x a.low a.high r.1 r.2 ∙ c.if-low-high.true))

pub returns-then-low-high : goal.returns-then-low-high
returns-then-low-high c =
    let a = c.args in
    let r = c.requires in
    let held_y : T (fits binary64 a.y) = subst T (sym c.well_formed.0.1) tt in
    let held_x : T (fits binary64 a.x) = subst T (sym c.well_formed.1.0.1) tt in
    c.angle.ensures
    ∙ angle-at a.y a.x r.0 (quotient a.y a.x a.low a.high r.1 r.2)
    ∙ sym (by_angle a.y a.x held_y held_x (test a.y a.x a.low a.high r.1 r.2 ∙ c.if-low-high.true) (slight a.y a.x a.low a.high r.1 r.2 a.steep r.0 ∙ c.if-steep-x.false))

pub returns : goal.returns
returns c =
    let a = c.args in
    let held_y : T (fits binary64 a.y) = subst T (sym c.well_formed.0.1) tt in
    let held_x : T (fits binary64 a.x) = subst T (sym c.well_formed.1.0.1) tt in
    c.edge.ensures ∙ sym (by_edge a.y a.x held_y held_x (test a.y a.x a.low a.high c.requires.1 c.requires.2 ∙ c.if-low-high.false))
