-- 001: "Parametric angles: find t such that ellipse_point(t) = p1, p2". "(lx, ly) = (rx*cos(t), ry*sin(t)) => t = atan2(ly/ry, lx/rx)". "Determine CCW from tangent direction at
-- start".
use Rattle.std.specs.Prelude.{Bool, Float}
use Rattle.std.specs.Float.Ieee.{neg, lt}
use Rattle.laws.specs.Rounded.{◌⊕◌, ◌⊖◌, ◌⊗◌, ◌⊘◌}
use Rattle.laws.specs.Literal.{zero}
use Rattle.root.specs.SquareRoot.{square_root}
use Rattle.sine.specs.Rule.{sine, cosine}
use Rattle.arctan.specs.Rule.{arctangent}
use Rattle.curves.specs.declared.Point.{Point}
use Rattle.curves.specs.declared.Radii.{Radii}
use Rattle.arc.specs.Ellipse.{ellipse_tangent}
use Rattle.shapes.specs.declared.Fitted.{Fitted}
use Rattle.conics.specs.declared.axes.Squares.{Squares}

-- sr and cr are the rotation's sine and cosine
abbrev pub parametric : Point → Point → Radii → Float → Float → Float
parametric p center r sr cr =
    let lx = (p.x ⊖ center.x) ⊗ cr ⊕ (p.y ⊖ center.y) ⊗ sr in
    let ly = neg (p.x ⊖ center.x) ⊗ sr ⊕ (p.y ⊖ center.y) ⊗ cr in
    arctangent (ly ⊘ r.b) (lx ⊘ r.a)

-- whether the ellipse at sa runs in the direction t1
abbrev pub agrees : Point → Radii → Float → Float → Bool
agrees t1 r rot sa =
    let tv = ellipse_tangent r.a r.b rot sa in
    let dot = tv.x ⊗ t1.x ⊕ tv.y ⊗ t1.y in
    lt zero dot

abbrev pub fitted_arc : Point → Point → Point → Point → Squares → Float → Fitted
fitted_arc p1 t1 p2 center squares rot =
    let r : Radii = record { a = square_root squares.rx_sq; b = square_root squares.ry_sq } in
    let sr = sine rot in
    let cr = cosine rot in
    let sa = parametric p1 center r sr cr in
    let ea = parametric p2 center r sr cr in
    record { center = center; rx = r.a; ry = r.b; rotation = rot; start = sa; end = ea; ccw = agrees t1 r rot sa }
