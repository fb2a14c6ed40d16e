-- 01, 'Numbers taken and numbers given back': "A refusal returns its number and no other value, and the room keeps all its old numbers. A pair without crossings answers zero hits."
-- "Numbers after the hits stay as lent." The promise of every call with a room, as one relation.
use Rattle.std.specs.Prelude.{ℕ, ◌≡◌, cond, List, [], eqb, Float}
use Rattle.hits.specs.declared.CurveHit.{CurveHit}
use Rattle.hits.specs.declared.Lengths.{Lengths}
use Rattle.hits.specs.Hit.{written}
use Rattle.hits.specs.Need.{lengths}
use Rattle.checks.specs.Refusal.{accepted}
use Rattle.checks.specs.Answer.{Answer, answered}

-- the refusal n, the hits hs and the counts; the room before; what is told and the room after
pub record Crossed (n : ℕ) (hs : List CurveHit) (counts : List ℕ) (before : List Float) (told : Answer) (after : List Float) : Type 0 where
  pub answer : told ≡ answered n [] counts
  pub room : after ≡ cond (eqb n accepted) (written hs before) before

-- what a call answers: its refusal by the lengths that are lent, the hits and the counts
pub record HitsAnswer : Type 0 where
  pub refusal : Lengths → ℕ
  pub hits : List CurveHit
  pub counts : List ℕ

abbrev pub Crosses : HitsAnswer → List Float → Answer → List Float → Type 0
Crosses q before told after = Crossed (q.refusal (lengths before)) q.hits q.counts before told after
