-- `sine::turns::remainder` meets its contract, by the laws of `ByTurns`.
use Rattle.std.proofs.Common.{◌^◌, ◌≤◌, false, T, sym, ap, ◌∙◌, subst, arith}
use lib.Count.{count_trailing_zeros}
use lib.Ieee.{binary64, fits, neg, rem, of_bits, of_fields, odd, to_bits}
use Rattle.laws.specs.Size.{abs}
use Rattle.laws.proofs.Size.{number-abs}
use Rattle.laws.proofs.SignBit.{round-neg}
use Rattle.scalar.proofs.Rules.{nan_is}
use Rattle.sine.specs.Angle.{tau}
use Rattle.sine.proofs.Remainders.{abs-fits}
use Rattle.sine.proofs.ByTurns.{remainder_near, remainder_unbounded, remainder_far, Far, scaled_back}
use Rattle.sine.proofs.turns.remainder.Goals as goal

pub returns-then-is_nan : goal.returns-then-is_nan
unfolding rem
returns-then-is_nan c = rw (nan_is c.args.x (sym c.is_nan.ensures.value ∙ c.if-is_nan.true)) c.not_a_number.ensures

pub returns-then-a : goal.returns-then-a
unfolding tau
returns-then-a c =
    let held : T (fits binary64 c.args.x) = subst T (sym c.well_formed.0.1) tt in
    remainder_near c.args.x held (rw c.abs-a.ensures at c.if-a.true)

pub float_to_bits-bits : goal.float_to_bits-bits
float_to_bits-bits c = rw c.abs-a.ensures (number-abs c.args.x (rw c.if-is_nan.false at c.is_nan.ensures.not_nan))

pub returns-then-bits-ge9218868437227405312 : goal.returns-then-bits-ge9218868437227405312
unfolding tau
returns-then-bits-ge9218868437227405312 c =
    let x = c.args.x in
    let e = c.abs-a.ensures in
    let held : T (fits binary64 (abs x)) = abs-fits x (subst T (sym c.well_formed.0.1) tt) in
    c.not_a_number-then-bits-ge9218868437227405312.ensures
    ∙ remainder_unbounded x held (rw e at c.if-a.false) (rw e at c.if-bits-ge9218868437227405312.true)

pub overflow_sub-field : goal.overflow_sub-field
unfolding tau
overflow_sub-field c =
    let x = c.args.x in
    let e = c.abs-a.ensures in
    let held : T (fits binary64 (abs x)) = abs-fits x (subst T (sym c.well_formed.0.1) tt) in
    let far : Far x (to_bits binary64 (abs x)) = remainder_far x held (rw e at c.if-a.false) (rw e at c.if-bits-ge9218868437227405312.false) in
    rw (c.field.ensures, e) far.field_from

pub returns-then-x : goal.returns-then-x
unfolding tau of_bits of_fields odd count_trailing_zeros
returns-then-x c =
    let x = c.args.x in
    let e = c.abs-a.ensures in
    let r = c.less_turns-r.result in
    let is = rw (c.digits_of.ensures, c.field.ensures, e) at c.less_turns-r.ensures in
    let held : T (fits binary64 (abs x)) = abs-fits x (subst T (sym c.well_formed.0.1) tt) in
    let far : Far x (to_bits binary64 (abs x)) = remainder_far x held (rw e at c.if-a.false) (rw e at c.if-bits-ge9218868437227405312.false) in
    let small : r ≤ 2 ^ 53 = rw is (omega arith) in
    ap neg (scaled_back r small) ∙ round-neg binary64 false r (2 ^ 50) ∙ rw is (sym (rw c.if-x.true at far.is))

pub returns : goal.returns
unfolding tau of_bits of_fields odd count_trailing_zeros
returns c =
    let x = c.args.x in
    let e = c.abs-a.ensures in
    let r = c.less_turns-r.result in
    let is = rw (c.digits_of.ensures, c.field.ensures, e) at c.less_turns-r.ensures in
    let held : T (fits binary64 (abs x)) = abs-fits x (subst T (sym c.well_formed.0.1) tt) in
    let far : Far x (to_bits binary64 (abs x)) = remainder_far x held (rw e at c.if-a.false) (rw e at c.if-bits-ge9218868437227405312.false) in
    let small : r ≤ 2 ^ 53 = rw is (omega arith) in
    scaled_back r small ∙ rw is (sym (rw c.if-x.false at far.is))
