-- `visit`: one cell.
use mathlib.Core.Path.{◌≡◌, refl, sym, ap, ◌∙◌}
use mathlib.Core.List.{[], ◌∷◌}
use native.Mathlib.Omega.{arith}
use Rattle.hits.specs.Outcome.{tally}
use Rattle.hunt.specs.Visits.{look, further, angles, resolve, visit}
use Rattle.hunt.proofs.Outcomes.{look_counts, angles-length}
use Rattle.hunt.proofs.visit.Goals as goal

pub looked-requires : goal.looked-requires
looked-requires c = rw c.looked-seen.ensures (omega arith)

pub settle-requires : goal.settle-requires
settle-requires c =
    let p = c.requires in
    rw (c.looked.ensures, c.looked-seen.ensures) (
      record { hits = p.0.hits; brackets = p.0.brackets; outside_a = p.0.outside_a; outside_b = p.0.outside_b; doubles = p.0.doubles },
      p.2,
    )

pub returns-then-brackets : goal.returns-then-brackets
unfolding visit resolve
returns-then-brackets c =
    let z = c.args in
    λ o lent h.
    let all = angles z.f.now z.c in
    let ended = look (z.c.hi ∷ []) o in
    let first : c.looked-seen.result ≡ tally ended = c.looked-seen.ensures ∙ ap (further 1) h.counts ∙ look_counts o (z.c.hi ∷ []) 1 refl in
    let then : c.looked.result ≡ tally (look all ended) = c.looked.ensures ∙ ap (further 61) first ∙ look_counts ended all 61 (sym (angles-length z.f.now z.c)) in
    rw (← c.brackets.ensures, c.if-brackets.true, ← c.narrow-at.ensures) (c.settle.ensures (look all ended) lent (record { counts = then; hits = h.hits }))

pub returns : goal.returns
unfolding visit
returns c =
    let z = c.args in
    λ o lent h.
    rw (← c.brackets.ensures, c.if-brackets.false)
    (record { counts = c.looked-seen.ensures ∙ ap (further 1) h.counts ∙ look_counts o (z.c.hi ∷ []) 1 refl; hits = h.hits })
