-- `bits` takes one hex digit at a turn: the reading is that of the digits that are left, behind the value so far, which is below 16 to the power of the turns.
use Rattle.std.proofs.Common.{◌≡◌, ◌-◌, ◌^◌, ◌<◌}
use Rattle.desk_fields.specs.Field.{bits_after, bits_of}
use Rattle.desk_fields.proofs.Fields.bits.Given as goal

abbrev pub invariant-loop : goal.invariant-loop
invariant-loop l = record {
  small : l.bits < 16 ^ l.counter;
  reading : bits_of l.initial.self.rest.now ≡ bits_after (16 - l.counter) l.bits l.self.rest.now;
}
