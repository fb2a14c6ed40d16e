use Rattle.std.proofs.Common.{◌≡◌, ◌-◌, map, refl, sym, ◌∙◌, arith}
use Rattle.std.proofs.lemmas.List.{length-map}
use Prim.Native.Nat.{suc}
use Rattle.hits.specs.Hit.{hit_from}
use Rattle.hunt_bracket.proofs.Doubles.{double_next, double_past, double_among}
use Rattle.hunt_bracket.proofs.fates.seen.Goals as goal

pub loop-i-init : goal.loop-i-init
loop-i-init c = (refl, double_past c.args.t (map hit_from c.args.hits.now) _ (simp length-map (omega arith)))

pub loop-i-preserved : goal.loop-i-preserved
loop-i-preserved c =
    let l = c.loop-i in
    let next : suc (l.i - 1) ≡ l.i = omega arith in
    let looked = rw c.from.ensures at c.near.ensures in
    (l.invariant.0, rw (double_next c.args.t c.args.hits.now (l.i - 1) (omega arith), ← looked, c.if-near.false, next) l.invariant.1)

pub returns-after-loop-i : goal.returns-after-loop-i
returns-after-loop-i c =
    let l = c.loop-i in
    let all : l.i ≡ 0 = omega arith in
    l.invariant.0 ∙ sym (rw all at l.invariant.1)

pub returns-then-near : goal.returns-then-near
returns-then-near c =
    let l = c.loop-i in
    let hits = c.args.hits.now in
    let looked = rw c.from.ensures at c.near.ensures in
    sym (double_among c.args.t (map hit_from hits) (l.i - 1) (rw (double_next c.args.t hits (l.i - 1) (omega arith), ← looked, c.if-near.true) refl))
