-- `turns::less_turns` moves up by ten places at a turn. The invariant: the remainder is that of the digits with as many places as were moved.
use Rattle.std.proofs.Common.{◌≡◌, ◌*◌, ◌^◌, ◌<◌, ◌%◌}
use Rattle.sine.proofs.turns.less_turns.Given as goal

abbrev pub invariant-loop : goal.invariant-loop
invariant-loop l = (l.r < 2 ^ 53) × (l.r % 7074237752028440 ≡ l.digits * 2 ^ (10 * l.counter) % 7074237752028440)
