-- `sine::rounded` meets its contract.
use Rattle.std.proofs.Common.{◌≡◌, ◌∙◌}
use Rattle.sine.specs.Rule.{sine_units, cosine_units}
use Rattle.sine.proofs.Sizes.{sine_units-lt, cosine_units-lt}
use Rattle.sine.proofs.Splits.{node-sine_small, node-cosine_small, versine_small, sine_small, parts-sine, parts-cosine}
use Rattle.sine.proofs.rounded.Goals as goal

pub turned-t-requires : goal.turned-t-requires
turned-t-requires c =
    let p = c.split-p.ensures in
    (node-sine_small p, node-cosine_small p, versine_small p, sine_small p)

pub turned-u-requires : goal.turned-u-requires
turned-u-requires c =
    let p = c.split-p.ensures in
    (node-cosine_small p, node-sine_small p, versine_small p, sine_small p)

pub rounded-requires : goal.rounded-requires
rounded-requires c =
    let n = c.args.n in
    let t : c.turned-t.result ≡ sine_units n = c.turned-t.ensures ∙ parts-sine c.split-p.ensures in
    rw t (sine_units-lt n)

pub rounded-requires-2 : goal.rounded-requires-2
rounded-requires-2 c =
    let n = c.args.n in
    let u : c.turned-u.result ≡ cosine_units n = c.turned-u.ensures ∙ parts-cosine c.split-p.ensures in
    rw u (cosine_units-lt n)

pub returns : goal.returns
returns c =
    let p = c.split-p.ensures in
    let t = c.turned-t.ensures ∙ parts-sine p in
    let u = c.turned-u.ensures ∙ parts-cosine p in
    (rw t at c.rounded.ensures, rw u at c.rounded-2.ensures)
