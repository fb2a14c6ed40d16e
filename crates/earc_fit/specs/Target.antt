-- 001: "`bulge` is dimensionless: perpendicular distance from chord to arc midpoint, divided by half the chord length." "Use the tangent-normal intersection to determine the arc
-- side." "arc bulges opposite to center". "Compute target midpoint directly from bulge".
use Rattle.std.specs.Prelude.{cond, Option, Some, None, Float}
use Rattle.std.specs.Float.Ieee.{neg, lt, le}
use Rattle.laws.specs.Rounded.{◌⊕◌, ◌⊖◌, ◌⊗◌, ◌⊘◌}
use Rattle.laws.specs.Literal.{zero, one, two, ten⁻¹²}
use Rattle.laws.specs.Size.{abs}
use Rattle.curves.specs.declared.Point.{Point}
use Rattle.root.specs.Norm.{norm}
use Rattle.conics.specs.declared.lines.Line.{Line}
use Rattle.conics.specs.Lines.{line_value}
use Rattle.earc_fit.specs.declared.target.Chord.{Chord}

abbrev pub chord : Point → Point → Point
chord p1 p2 = record { x = p2.x ⊖ p1.x; y = p2.y ⊖ p1.y }

-- None for ends that are alike: "chord_len < 1e-12"
abbrev pub chord_between : Point → Point → Option Chord
chord_between p1 p2 =
    let way = chord p1 p2 in
    let len = norm way.x way.y in
    cond (lt len ten⁻¹²) None (Some (record { p1 = p1; p2 = p2; way = way; len = len }))

abbrev pub normal : Point → Point
normal t = record { x = neg t.y; y = t.x }

-- Of parallel normals 001 says: "both target sides yield the same lambda -- the sign is inert here".
abbrev pub bulge_sign_of : Point → Point → Point → Point → Line → Float
bulge_sign_of p1 t1 t2 chord m =
    let n1 = normal t1 in
    let n2 = normal t2 in
    let denom = n1.x ⊗ n2.y ⊖ n1.y ⊗ n2.x in
    let s = (chord.x ⊗ n2.y ⊖ chord.y ⊗ n2.x) ⊘ denom in
    let center_guess : Point = record { x = p1.x ⊕ s ⊗ n1.x; y = p1.y ⊕ s ⊗ n1.y } in
    let center_side = line_value m center_guess in
    cond (lt ten⁻¹² (abs denom)) (cond (le zero center_side) (neg one) one) one

abbrev pub target_mid_of : Point → Point → Point → Float → Float → Float → Point
target_mid_of p1 p2 chord chord_len bulge_sign bulge =
    let half_chord = chord_len ⊘ two in
    let chord_mid : Point = record { x = (p1.x ⊕ p2.x) ⊘ two; y = (p1.y ⊕ p2.y) ⊘ two } in
    let chord_ux = chord.x ⊘ chord_len in
    let chord_uy = chord.y ⊘ chord_len in
    let perp_x = neg chord_uy in
    let perp_y = chord_ux in
    record {
      x = chord_mid.x ⊕ perp_x ⊗ bulge_sign ⊗ bulge ⊗ half_chord;
      y = chord_mid.y ⊕ perp_y ⊗ bulge_sign ⊗ bulge ⊗ half_chord;
    }
