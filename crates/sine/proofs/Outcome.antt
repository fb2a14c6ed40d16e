-- NO SECOND OUTCOME of `sin_cos`, whose contract is two equations: a pair is fixed by its sine and its cosine.
use Rattle.std.proofs.Common.{◌≡◌, sym, ap, ◌∙◌}
use lib.Ieee.{Float}
use Rattle.sine.specs.declared.SinCos.{SinCos}
use Rattle.sine.specs.Rule.{sine, cosine}

abbrev both : Float → Float → SinCos
both s c = record { sin = s; cos = c }

pub sin_cos_unique : (x : Float) (r s : SinCos) → (r.sin ≡ sine x) × (r.cos ≡ cosine x) → (s.sin ≡ sine x) × (s.cos ≡ cosine x) → r ≡ s
sin_cos_unique x r s (rs, rc) (ss, sc) = ap (λ y. both y r.cos) (rs ∙ sym ss) ∙ ap (λ y. both s.sin y) (rc ∙ sym sc)
