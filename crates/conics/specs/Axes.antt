-- 001: "Extract ellipse parameters from conic matrix". "Center: solve [A, B/2; B/2, C] * [cx; cy] = -[D/2; E/2]". "Eigenvalues of [[A, B], [B, C]] give 1/rx^2 and 1/ry^2 (up to
-- scale)". "Rotation: eigenvector of [[A, B], [B, C]] for ev1".
use Rattle.std.specs.Prelude.{Bool, cond, ◌||◌, Option, Some, None, Float}
use Rattle.std.specs.Float.Ieee.{neg, lt, le}
use Rattle.laws.specs.Rounded.{◌⊕◌, ◌⊖◌, ◌⊗◌, ◌⊘◌}
use Rattle.laws.specs.Literal.{zero, two, four, ten⁻¹²}
use Rattle.laws.specs.Size.{abs}
use Rattle.scalar.specs.Angles.{frac_pi2}
use Rattle.root.specs.SquareRoot.{square_root}
use Rattle.arctan.specs.Rule.{arctangent}
use Rattle.curves.specs.declared.Point.{Point}
use Rattle.conics.specs.declared.conic.Conic.{Conic}
use Rattle.conics.specs.declared.axes.Eigen.{Eigen}
use Rattle.conics.specs.declared.axes.Squares.{Squares}

abbrev pub determinant : Conic → Float
determinant q = q.a ⊗ q.c ⊖ q.b ⊗ q.b

abbrev pub center_of : Conic → Float → Point
center_of q det2 = record { x = (q.b ⊗ q.e ⊖ q.c ⊗ q.d) ⊘ det2; y = (q.b ⊗ q.d ⊖ q.a ⊗ q.e) ⊘ det2 }

-- None for what is no ellipse
abbrev pub center : Conic → Option Point
center q = cond (le (determinant q) ten⁻¹²) None (Some (center_of q (determinant q)))

abbrev pub eigenvalues : Conic → Eigen
eigenvalues q =
    let trace = q.a ⊕ q.c in
    let disc = square_root ((q.a ⊖ q.c) ⊗ (q.a ⊖ q.c) ⊕ four ⊗ q.b ⊗ q.b) in
    record { ev1 = (trace ⊕ disc) ⊘ two; ev2 = (trace ⊖ disc) ⊘ two }

abbrev pub either_flat : Eigen → Bool
either_flat ev = lt (abs ev.ev1) ten⁻¹² || lt (abs ev.ev2) ten⁻¹²

-- None where an axis is too flat
abbrev pub axis_eigenvalues : Conic → Option Eigen
axis_eigenvalues q = cond (either_flat (eigenvalues q)) None (Some (eigenvalues q))

-- "For canonical form: ev1 * x'^2 + ev2 * y'^2 + f' = 0 => x'^2 / (-f'/ev1) + y'^2 / (-f'/ev2) = 1"
abbrev pub radii_squared : Conic → Point → Eigen → Squares
radii_squared q center ev =
    let f_prime = q.f ⊕ q.d ⊗ center.x ⊕ q.e ⊗ center.y in
    record { rx_sq = neg f_prime ⊘ ev.ev1; ry_sq = neg f_prime ⊘ ev.ev2 }

abbrev pub either_unreal : Squares → Bool
either_unreal s = le s.rx_sq zero || le s.ry_sq zero

-- None where an axis is not real
abbrev pub axis_squares : Conic → Point → Eigen → Option Squares
axis_squares q center ev = cond (either_unreal (radii_squared q center ev)) None (Some (radii_squared q center ev))

abbrev pub rotation : Conic → Eigen → Float
rotation q ev =
    cond (lt ten⁻¹² (abs q.b)) (arctangent (ev.ev1 ⊖ q.a) q.b)
    (cond (le q.a q.c) zero frac_pi2)
