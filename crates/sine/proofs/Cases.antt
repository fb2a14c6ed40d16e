-- The rule's cases, of the angle n of x.
use Rattle.std.proofs.Common.{◌≡◌, ℕ, ◌^◌, ◌<◌, ◌≤◌, false, cond, le-leb}
use borrow.Author.Tests.{lt-leb}
use lib.Ieee.{Float, binary64, of_bits, rem, lt, eq}
use Rattle.sine.specs.Angle.{tau, units}
use Rattle.sine.specs.Rule.{sine_units, cosine_units, float, sine, cosine}

module _ (x : Float) (n : ℕ) (is : n ≡ units (rem binary64 x tau)) where
  pub sine-turned : 2 ^ 35 ≤ n → float (sine_units n) (lt x (of_bits binary64 0)) ≡ sine x
  unfolding sine
  sine-turned h = simp (← is, le-leb (2 ^ 35) n h)

  pub sine_remainder : n < 2 ^ 35 → rem binary64 x tau ≡ sine x
  unfolding sine
  sine_remainder h = simp (← is, lt-leb (2 ^ 35) n h)

  pub cosine-turned : 2 ^ 34 ≤ n → float (cosine_units n) false ≡ cosine x
  unfolding cosine
  cosine-turned h = simp (← is, le-leb (2 ^ 34) n h)

  pub cosine-one : n < 2 ^ 34 → cond (eq (rem binary64 x tau) (rem binary64 x tau)) (of_bits binary64 0x3ff0000000000000) (rem binary64 x tau) ≡ cosine x
  unfolding cosine
  cosine-one h = simp (← is, lt-leb (2 ^ 34) n h)
