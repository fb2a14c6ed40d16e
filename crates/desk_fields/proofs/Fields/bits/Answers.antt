use Rattle.std.proofs.Common.{sym, ◌∙◌, ◌-◌, ◌≡◌, arith}
use Rattle.std.proofs.lemmas.Grind.{pow_more}
use Rattle.digits.proofs.Values.{hex_digit-from_value}
use Rattle.desk_fields.specs.Field.{bits_after}
use Rattle.desk_fields.proofs.Steps.{bits_more, power_fits}
use Rattle.desk_fields.proofs.Fields.bits.Goals as goal

pub overflow_mul-bits : goal.overflow_mul-bits
overflow_mul-bits c = omega (arith, power_fits c.loop.counter (omega arith))

pub overflow_add-bits : goal.overflow_add-bits
overflow_add-bits c =
    let d = hex_digit-from_value c.from.result c.in_ok-hex_value.field-0 (sym c.in_ok-hex_value.ensures) in
    omega (arith, d.small, power_fits c.loop.counter (omega arith))

pub loop-preserved : goal.loop-preserved
loop-preserved c =
    let value = rw c.from.ensures at c.in_ok-hex_value.ensures in
    let d = hex_digit-from_value c.in_ok-byte.field-0 c.in_ok-hex_value.field-0 (sym value) in
    record {
      small = omega (arith, d.small, pow_more 16 c.loop.counter);
      reading = c.loop.invariant.reading ∙ bits_more c.loop.counter c.loop.bits c.loop.self.rest.now (omega arith) ∙ rw (← c.in_ok-byte.ensures.read, ← value, c.from-in-loop.ensures);
    }

pub returns : goal.returns
unfolding bits_after
returns c =
    let done : 16 - c.loop.counter ≡ 0 = omega arith in
    sym (rw done at c.loop.invariant.reading)
