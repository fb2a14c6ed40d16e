-- `sine::angle::angle` meets its contract: each way gives the whole part of the remainder's size.
use Rattle.std.proofs.Common.{◌≡◌, ℕ, ◌*◌, ◌^◌, ◌<◌, ◌≤◌, true, T, sym, refl, ◌∙◌, subst, arith}
use lib.Count.{count_trailing_zeros}
use lib.Ieee.{Float, binary64, fits, rem, lt, of_bits, of_fields, odd, to_bits}
use Rattle.laws.specs.Size.{abs}
use Rattle.laws.proofs.Size.{number-abs}
use Rattle.scalar.proofs.Rules.{nan_is}
use Rattle.fixed.specs.Size.{size_of}
use Rattle.laws.specs.Fields.{field}
use Rattle.sine.specs.Angle.{tau, units}
use Rattle.sine.proofs.Remainders.{units_lt, units_nan, size_abs, abs-fits, units-abs}
use Rattle.sine.proofs.Shortcuts.{turn_may_cut, turn_units, turn_by_bits, long_by_bits, far_may_cut}
use Rattle.sine.proofs.angle.angle.Goals as goal

-- what is the remainder's whole part is below 101.5 / 16 too
bounded : (x : Float) (n : ℕ) → n ≡ units (rem binary64 x tau) → (n ≡ units (rem binary64 x tau)) × (n < 203 * 2 ^ 56)
bounded x n e = (e, rw e (units_lt x))

field-from : (b : ℕ) → 0x3f60_0000_0000_0000 ≤ b → 1014 ≤ field b
field-from b h = omega arith

pub returns-then-is_nan : goal.returns-then-is_nan
unfolding tau rem
returns-then-is_nan c =
    let x = c.args.x in
    bounded x 0 (rw (nan_is x (sym c.is_nan.ensures.value ∙ c.if-is_nan.true)) (sym units_nan))

pub float_to_bits-bits : goal.float_to_bits-bits
float_to_bits-bits c = rw c.abs-a.ensures (number-abs c.args.x (rw c.if-is_nan.false at c.is_nan.ensures.not_nan))

pub moved-requires : goal.moved-requires
unfolding tau
moved-requires c =
    let held : T (fits binary64 (abs c.args.x)) = abs-fits c.args.x (subst T (sym c.well_formed.0.1) tt) in
    let x = c.args.x in
    let e = c.abs-a.ensures in
    let t : lt (size_of (abs x)) tau ≡ true = rw (e ∙ sym (size_abs x)) at c.if-a.true in
    let l : 1014 ≤ field (to_bits binary64 (abs x)) = field-from (to_bits binary64 (abs x)) (rw e at c.if-bits-ge4566650022153682944.true) in
    rw e (l, (turn_by_bits x held t l).0)

pub returns-then-bits-ge4566650022153682944 : goal.returns-then-bits-ge4566650022153682944
unfolding tau
returns-then-bits-ge4566650022153682944 c =
    let held : T (fits binary64 (abs c.args.x)) = abs-fits c.args.x (subst T (sym c.well_formed.0.1) tt) in
    let x = c.args.x in
    let e = c.abs-a.ensures in
    let t : lt (size_of (abs x)) tau ≡ true = rw (e ∙ sym (size_abs x)) at c.if-a.true in
    let l : 1014 ≤ field (to_bits binary64 (abs x)) = field-from (to_bits binary64 (abs x)) (rw e at c.if-bits-ge4566650022153682944.true) in
    bounded x _ (rw (c.moved.ensures, e) (turn_by_bits x held t l).1)

pub truncating_f64_to_u64-requires : goal.truncating_f64_to_u64-requires
unfolding tau of_bits of_fields odd count_trailing_zeros
truncating_f64_to_u64-requires c =
    let held : T (fits binary64 (abs c.args.x)) = abs-fits c.args.x (subst T (sym c.well_formed.0.1) tt) in
    let x = c.args.x in
    let e = c.abs-a.ensures ∙ sym (size_abs x) in
    let cut = turn_may_cut (abs x) held (rw e at c.if-a.true) in
    rw e (record { lower_bound = cut.0; upper_bound = cut.1 })

pub returns-then-a : goal.returns-then-a
unfolding tau units
returns-then-a c =
    let held : T (fits binary64 (abs c.args.x)) = abs-fits c.args.x (subst T (sym c.well_formed.0.1) tt) in
    let x = c.args.x in
    let e = c.abs-a.ensures ∙ sym (size_abs x) in
    let t : lt (size_of (abs x)) tau ≡ true = rw e at c.if-a.true in
    bounded x _ (rw (c.truncating_f64_to_u64.ensures, e) (sym (units-abs x ∙ turn_units (abs x) held t)))

pub moved-requires-then-a-2 : goal.moved-requires-then-a-2
unfolding tau of_bits of_fields odd count_trailing_zeros
moved-requires-then-a-2 c =
    let held : T (fits binary64 (abs c.args.x)) = abs-fits c.args.x (subst T (sym c.well_formed.0.1) tt) in
    let x = c.args.x in
    let e = c.abs-a.ensures in
    let s = e ∙ sym (size_abs x) in
    let f = long_by_bits x held (rw s at c.if-a.false) (rw s at c.if-a-2.true) in
    rw e (f.0, f.1)

pub returns-then-a-2 : goal.returns-then-a-2
unfolding tau of_bits of_fields odd count_trailing_zeros
returns-then-a-2 c =
    let held : T (fits binary64 (abs c.args.x)) = abs-fits c.args.x (subst T (sym c.well_formed.0.1) tt) in
    let x = c.args.x in
    let e = c.abs-a.ensures in
    let s = e ∙ sym (size_abs x) in
    bounded x _ (rw (c.moved-then-a-2.ensures, e) (long_by_bits x held (rw s at c.if-a.false) (rw s at c.if-a-2.true)).2)

pub returns-then-is_nan-2 : goal.returns-then-is_nan-2
unfolding tau
returns-then-is_nan-2 c =
    let x = c.args.x in
    let e = c.remainder-r.ensures in
    bounded x 0 (sym (rw (nan_is _ (sym (rw e at c.is_nan-2.ensures.value) ∙ c.if-is_nan-2.true)) units_nan))

pub truncating_f64_to_u64-requires-2 : goal.truncating_f64_to_u64-requires-2
unfolding tau of_bits of_fields odd count_trailing_zeros
truncating_f64_to_u64-requires-2 c =
    let x = c.args.x in
    let e = c.remainder-r.ensures in
    let cut = far_may_cut x (sym (rw e at c.is_nan-2.ensures.value) ∙ c.if-is_nan-2.false) in
    rw (c.size.ensures, e) (record { lower_bound = cut.0; upper_bound = cut.1 })

pub returns : goal.returns
unfolding tau units
returns c = bounded c.args.x _ (rw (c.truncating_f64_to_u64-2.ensures, c.size.ensures, c.remainder-r.ensures) refl)
