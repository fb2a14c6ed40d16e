-- That an arc's start is an f64. In a program it always is, and a proof about code knows it of every argument; but the logic's numbers are more than the f64s, and the contract that a
-- theorem about answers starts from does not say it. The order of the angles needs it: sample 0 is the start itself, the one sample that no operation has rounded, and with more digits
-- than an f64 has it could lie past sample 1.
use Rattle.std.specs.Prelude.{T}
use Rattle.std.specs.Float.{binary64}
use Rattle.std.specs.Float.Ieee.{fits}
use Rattle.curves.specs.declared.Arc.{Arc}

abbrev pub StartHeld : Arc → Type 0
StartHeld a = T (fits binary64 a.start)
