use Rattle.std.proofs.Common.{◌≡◌, suc, sym, ◌∙◌, ◌+◌, ◌-◌, arith}
use Rattle.nearest.specs.Newton.{newton}
use Rattle.nearest.proofs.search.Search.newton.Goals as goal

pub loop-preserved : goal.loop-preserved
unfolding newton
loop-preserved c =
    let l = c.loop in
    let more : 8 - l.counter ≡ suc (8 - (l.counter + 1)) = omega arith in
    (omega arith, l.invariant.1 ∙ rw (more, ← c.slopes_at-s.ensures, ← c.abs.ensures, c.if-abs.false, ← c.clamp-t.ensures))

pub returns-then-abs : goal.returns-then-abs
unfolding newton
returns-then-abs c =
    let l = c.loop in
    let more : 8 - l.counter ≡ suc (8 - (l.counter + 1)) = omega arith in
    sym (l.invariant.1 ∙ rw (more, ← c.slopes_at-s.ensures, ← c.abs.ensures, c.if-abs.true))
