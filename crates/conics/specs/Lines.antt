-- 001: "Tangent lines in ax + by + c = 0 form (line through p_i with direction t_i)". "Normalize m so that m(point) gives signed distance * chord_len". A line is the list of
-- its a, b and c.
use Rattle.std.specs.Prelude.{ℕ, cond, Option, Some, None, [], ◌∷◌, get_or, Float}
use Rattle.std.specs.Float.{nan}
use Rattle.std.specs.Float.Ieee.{lt, neg}
use Rattle.laws.specs.Rounded.{◌⊕◌, ◌⊖◌, ◌⊗◌, ◌⊘◌}
use Rattle.laws.specs.Literal.{ten⁻¹²}
use Rattle.root.specs.Norm.{norm}
use Rattle.curves.specs.declared.Point.{Point}
use Rattle.conics.specs.declared.lines.Line.{Line}

-- the number at a place of a line. Every line has three.
infixl 80 ◌!◌
abbrev pub ◌!◌ : Line → ℕ → Float
l ! i = get_or l.abc i nan

-- the line through p in the direction t
abbrev pub line_through : Point → Point → Line
line_through p t = record { abc = t.y ∷ neg t.x ∷ neg (t.y ⊗ p.x ⊖ t.x ⊗ p.y) ∷ [] }

abbrev pub normalized : Line → Float → Line
normalized m m_len = record { abc = m ! 0 ⊘ m_len ∷ m ! 1 ⊘ m_len ∷ m ! 2 ⊘ m_len ∷ [] }

-- None for no line: "m_len < 1e-12"
abbrev pub unit_line : Line → Option Line
unit_line m =
    let m_len = norm (m ! 0) (m ! 1) in
    cond (lt m_len ten⁻¹²) None (Some (normalized m m_len))

abbrev pub line_value : Line → Point → Float
line_value l p = l ! 0 ⊗ p.x ⊕ l ! 1 ⊗ p.y ⊕ l ! 2
