-- 001, `fit_earc_tangent`: "Fit an elliptic arc through two points with given tangent directions and bulge. [..] Returns (center, rx, ry, rotation, start_angle, end_angle, ccw)
-- or None if degenerate." Each of its six `return None` has its own place, in 001's order: the ends alike, no chord line, the target on the chord; then in `conic_arc` not an ellipse,
-- an axis too flat, no real axis.
use Rattle.std.specs.Prelude.{cond, Option, Some, None, Float}
use Rattle.std.specs.Float.Ieee.{lt, le}
use Rattle.laws.specs.Literal.{ten⁻¹²}
use Rattle.laws.specs.Size.{abs}
use Rattle.curves.specs.declared.Point.{Point}
use Rattle.shapes.specs.declared.Fitted.{Fitted}
use Rattle.conics.specs.declared.conic.Conic.{Conic}
use Rattle.root.specs.Norm.{norm}
use Rattle.conics.specs.Lines.{◌!◌, line_through, normalized, line_value}
use Rattle.earc_fit.specs.Target.{bulge_sign_of, target_mid_of}
use Rattle.earc_fit.specs.Target as target
use Rattle.conics.specs.Conic.{conic_matrix}
use Rattle.conics.specs.Conic as pencil
use Rattle.conics.specs.Axes.{determinant, center_of, eigenvalues, either_flat, radii_squared, either_unreal, rotation}
use Rattle.earc_fit.specs.Ends.{fitted_arc}

-- the arc on the conic q from p1, where it runs along t1, to p2
unfoldable pub conic_arc : Point → Point → Point → Conic → Option Fitted
conic_arc p1 t1 p2 q =
    let det2 = determinant q in
    let center = center_of q det2 in
    let ev = eigenvalues q in
    let squares = radii_squared q center ev in
    let rot = rotation q ev in
    cond (le det2 ten⁻¹²) None
    (cond (either_flat ev) None
    (cond (either_unreal squares) None
    (Some (fitted_arc p1 t1 p2 center squares rot))))

unfoldable pub fit_earc_tangent : Point → Point → Point → Point → Float → Option Fitted
fit_earc_tangent p1 t1 p2 t2 bulge =
    let chord = target.chord p1 p2 in
    let chord_len = norm chord.x chord.y in
    let l1 = line_through p1 t1 in
    let l2 = line_through p2 t2 in
    let chord_line = line_through p1 chord in
    let m_len = norm (chord_line ! 0) (chord_line ! 1) in
    let m = normalized chord_line m_len in
    let bulge_sign = bulge_sign_of p1 t1 t2 chord m in
    let target_mid = target_mid_of p1 p2 chord chord_len bulge_sign bulge in
    let m_val = line_value m target_mid in
    let lambda = pencil.lambda l1 l2 target_mid m_val in
    cond (lt chord_len ten⁻¹²) None
    (cond (lt m_len ten⁻¹²) None
    (cond (lt (abs m_val) ten⁻¹²) None
    (conic_arc p1 t1 p2 (conic_matrix l1 l2 m lambda))))
