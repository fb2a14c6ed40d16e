-- `arctan::arc` meets its contract.
use Rattle.std.proofs.Common.{◌≡◌, ℕ, ◌/◌, ◌%◌, ◌≤◌, sym, ap, ◌∙◌, subst, arith}
use lib.Ieee.{Float}
use Rattle.arctan.specs.declared.table.Row.{Row}
use Rattle.arctan.specs.Sizes.{Fit, Rest}
use Rattle.arctan.specs.Rows.{row_at}
use Rattle.arctan.specs.Rule.{series_at, place_of, units_at, arc_of}
use Rattle.arctan.proofs.Fit.{row_at_fit, units_small}
use Rattle.arctan.proofs.arc.Goals as goal

rest_of : (n : ℕ) → Rest (n % 144115188075855872)
rest_of n = omega arith

units-are : (n q : ℕ) (r : Row) → q ≡ series_at r (n % 144115188075855872) → r ≡ row_at (n / 144115188075855872) → q ≡ units_at n
unfolding units_at
units-are n q r e f = e ∙ ap (λ (s : Row). series_at s (n % 144115188075855872)) f

arc-is : (u : Float) (n : ℕ) → n ≡ place_of u → units_at n ≡ arc_of u
unfolding arc_of
arc-is u n e = ap units_at e

pub series-requires : goal.series-requires
series-requires c =
    let n = c.place-n.result in
    (subst (λ (r : Row). Fit r) (sym c.look-r.ensures) (row_at_fit (n / 144115188075855872)), rest_of n)

pub returns : goal.returns
returns c =
    let n = c.place-n.result in
    let e = units-are n c.series.result c.look-r.result c.series.ensures c.look-r.ensures in
    (e ∙ arc-is c.args.u n c.place-n.ensures, subst (λ (q : ℕ). q ≤ 2558044588346441728) (sym e) (units_small n))
