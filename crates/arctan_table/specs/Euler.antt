-- Euler's series of the arctangent at the fraction u = a / b, as fractions of whole numbers.
-- 01, 'Roots and angles': "The exact value A is the sum of the first 64 terms of Euler's series, term n being 4^n (n!)^2 / (2n+1)! times
-- u^(2n+1) / (1+u^2)^(n+1)."
use Rattle.std.specs.Prelude.{ℕ, zero, suc, ◌+◌, ◌*◌, ◌^◌}
use Rattle.series.specs.Factorial.{factorial}

pub record Fraction : Type 0 where
  pub top : ℕ
  pub bottom : ℕ

unfoldable pub plus : Fraction → Fraction → Fraction
plus p q = record { top = p.top * q.bottom + q.top * p.bottom; bottom = p.bottom * q.bottom }

-- term n: at u = a / b the factor u ^ (2 n + 1) / (1 + u ^ 2) ^ (n + 1) is a ^ (2 n + 1) b / (a ^ 2 + b ^ 2) ^ (n + 1)
unfoldable pub term : ℕ → ℕ → ℕ → Fraction
unfolding factorial
term n a b =
    record {
      top = 4 ^ n * (factorial n * factorial n) * (a ^ (2 * n + 1) * b);
      bottom = factorial (2 * n + 1) * (a * a + b * b) ^ (n + 1);
    }

-- the sum of k terms, from term n on
unfoldable pub terms : ℕ → ℕ → ℕ → ℕ → Fraction
unfolding term plus
terms zero n a b = record { top = 0; bottom = 1 }
terms (suc k) n a b = plus (term n a b) (terms k (suc n) a b)
