-- SVG 2, implementation notes, arcs: parameters that are out of range, and radii that are too small. SVG 2 itself was not at hand: the steps are 000's, and a number F.6.x is that of
-- 000's comment. 01: "its numbered steps, each operation rounded once in 000's order. 000's tests against 1e-12 and 1e-30 [..] are listed differences; there 000 decides."
use Rattle.std.specs.Prelude.{Bool, cond, ◌&&◌, ◌||◌, Float}
use Rattle.std.specs.Float.Ieee.{lt}
use Rattle.laws.specs.Rounded.{◌⊕◌, ◌⊖◌, ◌⊗◌, ◌⊘◌}
use Rattle.laws.specs.Literal.{one, ten⁻¹²}
use Rattle.laws.specs.Size.{abs}
use Rattle.root.specs.SquareRoot.{square_root}
use Rattle.curves.specs.declared.Point.{Point}
use Rattle.curves.specs.declared.Radii.{Radii}

-- 000: "F.6.2: if endpoints are identical, skip". A listed difference: 000 takes ends for identical that are less than 1e-12 apart in x and in y.
abbrev pub identical : Point → Point → Bool
identical p1 p2 = lt (abs (p1.x ⊖ p2.x)) ten⁻¹² && lt (abs (p1.y ⊖ p2.y)) ten⁻¹²

-- the sign of a radius is dropped: rx = |rx|, ry = |ry|
abbrev pub positive : Float → Float → Radii
positive rx ry = record { a = abs rx; b = abs ry }

-- a radius of 0 makes no arc. A listed difference: 000 takes a radius below 1e-12 for 0.
abbrev pub straight : Radii → Bool
straight r = lt r.a ten⁻¹² || lt r.b ten⁻¹²

-- 000: "F.6.6.2: ensure radii are large enough". Λ = x1'^2 / rx^2 + y1'^2 / ry^2. p is (x1', y1').
abbrev pub lambda : Point → Radii → Float
lambda p r = (p.x ⊗ p.x) ⊘ (r.a ⊗ r.a) ⊕ (p.y ⊗ p.y) ⊘ (r.b ⊗ r.b)

-- and where Λ is above 1 the radii become sqrt(Λ) rx and sqrt(Λ) ry
abbrev pub enlarged : Radii → Float → Radii
enlarged r Λ =
    let s = square_root Λ in
    cond (lt one Λ) (record { a = r.a ⊗ s; b = r.b ⊗ s }) r
