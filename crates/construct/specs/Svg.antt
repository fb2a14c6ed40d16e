-- SVG 2, implementation notes, arcs: from the ends of an arc to its center. SVG 2 itself was not at hand: the formulas are 000's, and a number F.6.x is that of 000's comment. 01: "its
-- numbered steps, each operation rounded once in 000's order. 000's tests against 1e-12 and 1e-30, its `max(0.0)` and `clamp`, and its arctangent for the start angle (SVG 2 has a signed
-- arccosine) are listed differences; there 000 decides." sin and cos are those of the rotation φ, p is (x1', y1'), c is (cx', cy').
use Rattle.std.specs.Prelude.{Bool, cond, not, ◌&&◌, Float}
use Rattle.std.specs.Bool.{beq}
use Rattle.std.specs.Float.Ieee.{lt, neg}
use Rattle.laws.specs.Rounded.{◌⊕◌, ◌⊖◌, ◌⊗◌, ◌⊘◌}
use Rattle.laws.specs.Literal.{zero, one, two, ten⁻³⁰}
use Rattle.laws.specs.Size.{abs}
use Rattle.scalar.specs.Angles.{tau}
use Rattle.scalar.specs.Extremes.{maximum}
use Rattle.scalar.specs.Clamp.{clamp}
use Rattle.root.specs.SquareRoot.{square_root}
use Rattle.arctan.specs.Rule.{arctangent}
use Rattle.arccos.specs.Arccos.{arccosine}
use Rattle.curves.specs.declared.Point.{Point}
use Rattle.curves.specs.declared.Radii.{Radii}
use Rattle.root.specs.Norm.{norm}

-- F.6.5.1: (x1', y1') is [cos φ, sin φ; -sin φ, cos φ] times ((x1 - x2) / 2, (y1 - y2) / 2).
abbrev pub primed : Point → Point → Float → Float → Point
primed p1 p2 sin cos =
    let dx = (p1.x ⊖ p2.x) ⊘ two in
    let dy = (p1.y ⊖ p2.y) ⊘ two in
    record { x = cos ⊗ dx ⊕ sin ⊗ dy; y = neg sin ⊗ dx ⊕ cos ⊗ dy }

-- F.6.5.2, the root: sqrt((rx^2 ry^2 - rx^2 y1'^2 - ry^2 x1'^2) / (rx^2 y1'^2 + ry^2 x1'^2)). Listed differences: 000 takes a numerator below 0 for 0, and the root for 0 where
-- the denominator's size is below 1e-30.
abbrev pub quotient_root : Point → Radii → Float
quotient_root p r =
    let rx2 = r.a ⊗ r.a in
    let ry2 = r.b ⊗ r.b in
    let x2 = p.x ⊗ p.x in
    let y2 = p.y ⊗ p.y in
    let num = maximum (rx2 ⊗ ry2 ⊖ rx2 ⊗ y2 ⊖ ry2 ⊗ x2) zero in
    let den = rx2 ⊗ y2 ⊕ ry2 ⊗ x2 in
    cond (lt (abs den) ten⁻³⁰) zero (square_root (num ⊘ den))

-- F.6.5.2, the sign: + where the flags of a large arc and of the sweep differ, - where they are alike.
abbrev pub sign : Bool → Bool → Float
sign large sweep = cond (beq large sweep) (neg one) one

-- F.6.5.2: (cx', cy') is the sign times the root times (rx y1' / ry, -ry x1' / rx).
abbrev pub primed_center : Point → Radii → Bool → Bool → Point
primed_center p r large sweep =
    let sq = quotient_root p r in
    let s = sign large sweep in
    record { x = s ⊗ sq ⊗ r.a ⊗ p.y ⊘ r.b; y = s ⊗ sq ⊗ neg r.b ⊗ p.x ⊘ r.a }

-- F.6.5.3: (cx, cy) is [cos φ, -sin φ; sin φ, cos φ] times (cx', cy'), plus ((x1 + x2) / 2, (y1 + y2) / 2).
abbrev pub turned_back : Point → Point → Float → Float → Point → Point
turned_back p1 p2 sin cos c =
    let mx = (p1.x ⊕ p2.x) ⊘ two in
    let my = (p1.y ⊕ p2.y) ⊘ two in
    record { x = cos ⊗ c.x ⊖ sin ⊗ c.y ⊕ mx; y = sin ⊗ c.x ⊕ cos ⊗ c.y ⊕ my }

-- For F.6.5.5-6: the angle of u to v is ± arccos(u·v / (|u| |v|)), its sign that of ux vy - uy vx; where that is 0, 000 takes the +. A listed difference: 000
-- clamps the cosine to -1..1.
abbrev pub angle : Point → Point → Float
angle u v =
    let dot = u.x ⊗ v.x ⊕ u.y ⊗ v.y in
    let len = norm u.x u.y ⊗ norm v.x v.y in
    let a = arccosine (clamp (dot ⊘ len) (neg one) one) in
    let cross = u.x ⊗ v.y ⊖ u.y ⊗ v.x in
    cond (lt cross zero) (neg a) a

-- F.6.5.5-6, the vectors from the center: ((x1' - cx') / rx, (y1' - cy') / ry).
abbrev pub scaled : Point → Point → Radii → Point
scaled p c r = record { x = (p.x ⊖ c.x) ⊘ r.a; y = (p.y ⊖ c.y) ⊘ r.b }

-- F.6.5.5-6: "compute start angle", the angle of (1, 0) to the vector u of the start. A listed difference: 000 takes the arctangent.
abbrev pub start_angle : Point → Float
start_angle u = arctangent u.y u.x

-- 000: "Adjust sweep for sweep flag". Δθ is the angle of the start's vector to the end's: a turn less where the flag is not set and Δθ is above 0, a turn more where it is set and Δθ is
-- below 0.
abbrev pub swept : Float → Bool → Float
swept Δθ sweep =
    cond (not sweep && lt zero Δθ) (Δθ ⊖ tau)
    (cond (sweep && lt Δθ zero) (Δθ ⊕ tau)
    Δθ)
