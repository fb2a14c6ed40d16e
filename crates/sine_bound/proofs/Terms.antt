-- Taylor's sums are the values of the lists that the table was tested against.
use mathlib.Core.Path.{◌≡◌, ◌∙◌}
use Prim.Native.Nat.{ℕ}
use native.Mathlib.Nat.{add-zero, zero-add, zero-mul}
use Rattle.series.specs.Sum.{sum_below}
use Rattle.series.specs.Poly.{value}
use Rattle.series.proofs.Sums.{value-sum}
use Rattle.series.specs.Factorial.{factorial}
use Rattle.sine_table.specs.Series.{over, every_fourth}
use Rattle.sine_table.specs.Series as list
use Rattle.sine_bound.specs.Taylor.{sine_gains, sine_losses, cosine_gains, cosine_losses}

module _ (n d : ℕ) where
  pub sine_gains_lem : value 43 list.sine_gains n d ≡ sine_gains n d
  unfolding sum_below list.sine_gains over every_fourth factorial
  sine_gains_lem = value-sum 43 list.sine_gains n d ∙ simp (zero-mul, add-zero, zero-add)

  pub sine_losses_lem : value 43 list.sine_losses n d ≡ sine_losses n d
  unfolding sum_below list.sine_losses over every_fourth factorial
  sine_losses_lem = value-sum 43 list.sine_losses n d ∙ simp (zero-mul, add-zero, zero-add)

  pub cosine_gains_lem : value 43 list.cosine_gains n d ≡ cosine_gains n d
  unfolding sum_below list.cosine_gains over every_fourth factorial
  cosine_gains_lem = value-sum 43 list.cosine_gains n d ∙ simp (zero-mul, add-zero, zero-add)

  pub cosine_losses_lem : value 43 list.cosine_losses n d ≡ cosine_losses n d
  unfolding sum_below list.cosine_losses over every_fourth factorial
  cosine_losses_lem = value-sum 43 list.cosine_losses n d ∙ simp (zero-mul, add-zero, zero-add)
