-- 01, 'Roots and angles': "The exact value is the fraction got by summing the first 22 terms of the Taylor series at r."
-- At the fraction n / d every term is a fraction over 43! * d ^ 43. A series is its gains, the terms that are added, less its losses,
-- those that are taken away: 11 of each.
use Rattle.std.specs.Prelude.{ℕ, ◌+◌, ◌-◌, ◌*◌, ◌/◌, ◌^◌}
use Rattle.series.specs.Sum.{sum_below}
use Rattle.series.specs.Factorial.{factorial}

-- the common denominator
abbrev pub denominator : ℕ → ℕ
denominator d = factorial 43 * d ^ 43

-- (n / d) ^ i / i! as a numerator over it
abbrev pub term : ℕ → ℕ → ℕ → ℕ
term n d i = factorial 43 / factorial i * (n ^ i * d ^ (43 - i))

-- the sine: the terms 1, 5, 9, .., 41 less the terms 3, 7, 11, .., 43
abbrev pub sine_gains : ℕ → ℕ → ℕ
sine_gains n d = sum_below 11 (λ k. term n d (4 * k + 1))

abbrev pub sine_losses : ℕ → ℕ → ℕ
sine_losses n d = sum_below 11 (λ k. term n d (4 * k + 3))

-- the cosine: the terms 0, 4, 8, .., 40 less the terms 2, 6, 10, .., 42
abbrev pub cosine_gains : ℕ → ℕ → ℕ
cosine_gains n d = sum_below 11 (λ k. term n d (4 * k))

abbrev pub cosine_losses : ℕ → ℕ → ℕ
cosine_losses n d = sum_below 11 (λ k. term n d (4 * k + 2))
