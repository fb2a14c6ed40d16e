-- `arctan::atan2` meets its contract.
use Rattle.std.proofs.Common.{◌≡◌, Bool, true, false, not, ◌&&◌, T, sym, refl, ◌∙◌, subst, true≢false}
use lib.Ieee.{Float, binary64, div, fits, lt, le}
use Rattle.laws.specs.Literal.{zero, largest}
use Rattle.arctan.specs.Sizes.{InUnit}
use Rattle.arctan.specs.Rule.{tiny, steep_of, smaller, larger, ratio}
use Rattle.arctan.proofs.Tests.{tested}
use Rattle.arctan.proofs.Ratio.{ratio-unit}
use Rattle.arctan.proofs.Cases.{by_angle}
use Rattle.arctan.proofs.Sized.{steep_is, smaller_is, larger_is, quotient_is, test_is, angle-at}
use Rattle.arctan.proofs.atan2.Goals as goal

both : (a b : Bool) → (a && not b) ≡ true → (a ≡ true) × (b ≡ false)
both true true e = (refl, sym e)
both true false e = (refl, refl)
both false b e = absurd (true≢false (sym e))

never : (a b c : Bool) → c ≡ false → (a && (b && c)) ≡ false
never true true c e = e
never true false c e = refl
never false b c e = refl

-- the one test that nearly always holds
taken : (y x low high : Float) → low ≡ smaller y x → high ≡ larger y x
    → ((lt zero low && le high largest) && not (lt (div binary64 low high) tiny)) ≡ true
    → (tested y x ≡ true) × (lt (ratio y x) tiny ≡ false)
taken y x low high least most e =
    let h = both (lt zero low && le high largest) (lt (div binary64 low high) tiny) e in
    (sym (test_is y x low high least most) ∙ h.0, subst (λ (u : Float). lt u tiny ≡ false) (quotient_is y x low high least most) h.1)

pub angle-requires : goal.angle-requires
angle-requires c =
    let y = c.args.y in
    let x = c.args.x in
    let low = c.pick-low.result in
    let high = c.pick-high.result in
    let least : low ≡ smaller y x = c.pick-low.ensures ∙ smaller_is y x c.size-a.result c.size-b.result c.size-a.ensures c.size-b.ensures in
    let most : high ≡ larger y x = c.pick-high.ensures ∙ larger_is y x c.size-a.result c.size-b.result c.size-a.ensures c.size-b.ensures in
    subst InUnit (sym (quotient_is y x low high least most)) (ratio-unit y x (taken y x low high least most c.if-low-high.true).0)

pub returns-then-low-high : goal.returns-then-low-high
returns-then-low-high c =
    let y = c.args.y in
    let x = c.args.x in
    let a = c.size-a.result in
    let b = c.size-b.result in
    let low = c.pick-low.result in
    let high = c.pick-high.result in
    let held_y : T (fits binary64 y) = subst T (sym c.well_formed.0.1) tt in
    let held_x : T (fits binary64 x) = subst T (sym c.well_formed.1.0.1) tt in
    let steep : lt a b ≡ steep_of y x = steep_is y x a b c.size-a.ensures c.size-b.ensures in
    let least : low ≡ smaller y x = c.pick-low.ensures ∙ smaller_is y x a b c.size-a.ensures c.size-b.ensures in
    let most : high ≡ larger y x = c.pick-high.ensures ∙ larger_is y x a b c.size-a.ensures c.size-b.ensures in
    let h = taken y x low high least most c.if-low-high.true in
    let q = never (not (steep_of y x)) (lt zero x) (lt (ratio y x) tiny) h.1 in
    c.angle.ensures ∙ angle-at y x steep (quotient_is y x low high least most) ∙ sym (by_angle y x held_y held_x h.0 q)
