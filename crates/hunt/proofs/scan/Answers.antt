use mathlib.Core.Path.{◌≡◌, refl, sym, ap, ◌∙◌}
use mathlib.Core.List.{[], ◌∷◌}
use native.Mathlib.Omega.{arith}
use Rattle.hits.proofs.Held.{holds_empty, no_counts}
use Rattle.hunt.specs.Cells.{sample}
use Rattle.hits.specs.Outcome.{Outcome, tally, none}
use Rattle.hunt.specs.Visits.{further, scanned}
use Rattle.hunt.proofs.Outcomes.{look_counts, scanned-none, scanned_more, scanned_small, cell_is}
use Rattle.hunt.proofs.scan.Goals as goal

pub looked-t-requires : goal.looked-t-requires
looked-t-requires c = rw (no_counts c.default.result c.default.ensures) (omega arith)

pub loop-i-init : goal.loop-i-init
unfolding sample
loop-i-init c =
    let z = c.args in
    let first : c.looked-t.result ≡ tally (scanned z.f.now z.start z.step z.closing 0) =
    c.looked-t.ensures ∙
    ap (further 1) (no_counts c.default.result c.default.ensures) ∙
    look_counts none (z.start ∷ []) 1 refl ∙
    ap tally (sym (scanned-none z.f.now z.start z.step z.closing)) in
    (omega arith, refl, refl, c.value-g_lo.ensures, holds_empty (ap (λ (o : Outcome). o.hits) (scanned-none z.f.now z.start z.step z.closing)) first)

pub visit-t-requires : goal.visit-t-requires
visit-t-requires c =
    let z = c.args in
    let l = c.loop-i in
    let s = scanned_small z.f.now z.start z.step z.closing l.i (omega arith) in
    rw l.invariant.4.counts (s.0, s.1, omega (arith, s.2))

pub loop-i-preserved : goal.loop-i-preserved
loop-i-preserved c =
    let z = c.args in
    let l = c.loop-i in
    let o = scanned z.f.now z.start z.step z.closing l.i in
    let v = c.visit-t.ensures o z.room.now l.invariant.4 in
    let same = cell_is z.f.now z.start z.step z.closing l.i l.lo c.sample-hi.result l.g_lo c.value-g_hi.result l.invariant.2
    c.sample-hi.ensures l.invariant.3 c.value-g_hi.ensures in
    let next = sym (scanned_more z.f.now z.start z.step z.closing l.i) in (
      omega arith,
      c.visit-t.auto.room ∙ l.invariant.1,
      c.sample-hi.ensures,
      c.value-g_hi.ensures,
      rw (← next, ← same, ← c.is_closing.ensures) v,
    )

pub returns : goal.returns
returns c =
    let z = c.args in
    let l = c.loop-i in
    let done : l.i ≡ z.n = omega arith in
    rw (← done) l.invariant.4
