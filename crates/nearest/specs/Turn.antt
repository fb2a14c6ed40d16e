-- 002, `ellipse_point`: `let cr = rot.cos(); let sr = rot.sin();`. What a caller who worked these two out hands on with the arc.
use Rattle.std.specs.Prelude.{◌≡◌}
use Rattle.sine.specs.declared.SinCos.{SinCos}
use Rattle.sine.specs.Rule.{sine, cosine}
use Rattle.curves.specs.declared.Arc.{Arc}

-- turn is the sine and the cosine of a's rotation
abbrev pub Turn : Arc → SinCos → Type 0
Turn a turn = (turn.sin ≡ sine a.rotation) × (turn.cos ≡ cosine a.rotation)
