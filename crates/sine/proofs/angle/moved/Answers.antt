-- `sine::angle::moved` meets its contract: no digit is lost at the top.
use Rattle.std.proofs.Common.{◌≡◌, ℕ, ◌+◌, ◌-◌, ◌*◌, ◌%◌, ◌^◌, ◌<◌, lt_of_lt_of_le, mod-eq_of_lt, arith, pow_mono, shl_lt}
use Rattle.laws.specs.Fields.{field, digits_of}
use Rattle.sine.proofs.angle.moved.Goals as goal

kept : (d k : ℕ) → d < 2 ^ 53 → k < 12 → d * 2 ^ k % 2 ^ 64 ≡ d * 2 ^ k
kept d k h l = mod-eq_of_lt (lt_of_lt_of_le (shl_lt 53 k h) (pow_mono {i = 53 + k} {j = 64} (omega arith)))

pub returns : goal.returns
returns c =
    let b = c.args.bits in
    rw (c.digits_of.ensures, c.field.ensures) (kept (digits_of b) (field b - c.args.low) (omega arith) (omega arith))
