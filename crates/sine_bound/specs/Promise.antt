-- 01, 'Roots and angles': "let r be x % TAU, as the language's % gives it. The exact value is the fraction got by summing the first 22
-- terms of the Taylor series at r. The answer is within 2^-44 of it".
use Rattle.std.specs.Prelude.{cond, Float}
use Rattle.std.specs.Float.Ieee.Positive.{num, den}
use Rattle.sine_bound.specs.Taylor.{denominator, sine_gains, sine_losses, cosine_gains, cosine_losses}
use Rattle.laws.specs.Kind.{negative}
use Rattle.sine_bound.specs.Within.{Within}

-- y is within 2 ^ -44 of the sine's 22 terms at r. Each power is odd: where r is below 0 the gains and the losses of its size change places.
abbrev pub NearSine : Float → Float → Type 0
NearSine r y =
    let g = sine_gains (num r) (den r) in
    let l = sine_losses (num r) (den r) in
    Within y (denominator (den r)) (cond (negative r) l g) (cond (negative r) g l)

-- y is within 2 ^ -44 of the cosine's 22 terms at r; each power is even
abbrev pub NearCosine : Float → Float → Type 0
NearCosine r y = Within y (denominator (den r)) (cosine_gains (num r) (den r)) (cosine_losses (num r) (den r))
