-- `settling::settle` finds the fate, writes a hit and counts.
use mathlib.Core.Path.{ap, ◌∙◌}
use mathlib.Core.List.{List}
use Rattle.hits.specs.declared.CurveHit.{CurveHit}
use Rattle.hits.specs.Hit.{written}
use Rattle.hunt_bracket.specs.Fate.{fate}
use Rattle.hunt_bracket.specs.declared.Fate.{Fate}
use Rattle.hits.specs.Outcome.{tally}
use Rattle.hits.proofs.Held.{holds_stands}
use Rattle.hunt.specs.Visits.{settle}
use Rattle.hunt.proofs.Outcomes.{settle_hits}
use Rattle.hunt.proofs.settling.settle.Goals as goal

pub returns : goal.returns
returns c =
    λ o lent h.
    let s = holds_stands h in
    let d = c.fate-d.ensures ∙ ap (λ (hs : List CurveHit). fate c.args.f.now hs c.args.at) (c.first_hits.ensures o.hits lent s) in
    record {
      counts = c.settled.ensures o h.counts ∙ ap (λ (x : Fate). tally (settle x o)) d;
      hits =
          (c.keep.ensures o.hits lent s).numbers
          ∙ ap (λ (hs : List CurveHit). written hs lent) (settle_hits c.fate-d.result o)
          ∙ ap (λ (x : Fate). written (settle x o).hits lent) d;
    }
