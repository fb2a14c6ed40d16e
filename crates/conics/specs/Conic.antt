-- 001: "The family of conics tangent to lines L1 at p1 and L2 at p2 is: L1*L2 + lambda * M^2 = 0 where M is the chord line through p1, p2." "Build conic matrix": its entry i, j is
-- `(l1v[i] * l2v[j] + l2v[i] * l1v[j]) / 2.0 + lambda * mv[i] * mv[j]`.
use Rattle.std.specs.Prelude.{ℕ, Float}
use Rattle.std.specs.Float.Ieee.{neg}
use Rattle.laws.specs.Rounded.{◌⊕◌, ◌⊗◌, ◌⊘◌}
use Rattle.laws.specs.Literal.{two}
use Rattle.curves.specs.declared.Point.{Point}
use Rattle.conics.specs.declared.lines.Line.{Line}
use Rattle.conics.specs.declared.conic.Conic.{Conic}
use Rattle.conics.specs.Lines.{◌!◌, line_value}

-- "Find lambda for this target"
abbrev pub lambda : Line → Line → Point → Float → Float
lambda l1 l2 target_mid m_val =
    let l1_val = line_value l1 target_mid in
    let l2_val = line_value l2 target_mid in
    neg (l1_val ⊗ l2_val) ⊘ (m_val ⊗ m_val)

abbrev pub entry : Line → Line → Line → Float → ℕ → ℕ → Float
entry l1 l2 m lambda i j = (l1 ! i ⊗ l2 ! j ⊕ l2 ! i ⊗ l1 ! j) ⊘ two ⊕ lambda ⊗ m ! i ⊗ m ! j

-- the six entries that 001 reads
abbrev pub conic_matrix : Line → Line → Line → Float → Conic
conic_matrix l1 l2 m lambda =
    let q = entry l1 l2 m lambda in
    record { a = q 0 0; b = q 0 1; c = q 1 1; d = q 0 2; e = q 1 2; f = q 2 2 }
