use Rattle.std.proofs.Common.{arith}
use Rattle.std.proofs.lemmas.Grind.{common_steps}
use Rattle.std.proofs.lemmas.List.{get_or-replicate}
use Rattle.replay_rows.specs.Agree.{unwritten}
use Rattle.replay_rows.proofs.answer.Answer.new.Goals as goal

pub loop-i-init : goal.loop-i-init
loop-i-init c = (λ k h. absurd (omega arith), λ k l h. get_or-replicate 128 k unwritten 0 h)

pub loop-i-preserved : goal.loop-i-preserved
loop-i-preserved c = (λ k h. grind (arith, common_steps, c.loop-i.invariant.0 k), λ k l h. grind (arith, common_steps, c.loop-i.invariant.1 k))
