-- 000, `svg_arc_to_center`: "Given start/end points, radii, rotation, and arc selection flags, returns (center, start_angle, end_angle, rx, ry) or None if degenerate." The
-- steps of SVG 2, in 000's order.
use Rattle.std.specs.Prelude.{Bool, cond, Option, Some, None, Float}
use Rattle.std.specs.Float.Ieee.{neg}
use Rattle.laws.specs.Rounded.{◌⊕◌}
use Rattle.sine.specs.Rule.{sine, cosine}
use Rattle.curves.specs.declared.Point.{Point}
use Rattle.curves.specs.declared.Radii.{Radii}
use Rattle.shapes.specs.declared.Converted.{Converted}
use Rattle.construct.specs.OutOfRange.{identical, positive, straight, lambda, enlarged}
use Rattle.construct.specs.Svg.{primed, primed_center, turned_back, angle, scaled, start_angle, swept}

-- the steps from F.6.5.1 on, with radii that are in range
unfoldable pub about_center : Point → Point → Radii → Float → Bool → Bool → Converted
about_center p1 p2 given rotation large sweep =
    let sin = sine rotation in
    let cos = cosine rotation in
    let p = primed p1 p2 sin cos in
    let r = enlarged given (lambda p given) in
    let c = primed_center p r large sweep in
    let u = scaled p c r in
    let v = scaled (record { x = neg p.x; y = neg p.y }) c r in
    let start = start_angle u in
    record {
      center = turned_back p1 p2 sin cos c;
      start = start;
      end = start ⊕ swept (angle u v) sweep;
      rx = r.a;
      ry = r.b;
    }

-- None for identical ends, then None for a radius that is too small
abbrev pub svg_arc_to_center : Point → Point → Float → Float → Float → Bool → Bool → Option Converted
svg_arc_to_center p1 p2 rx ry rotation large sweep =
    cond (identical p1 p2) None
    (cond (straight (positive rx ry)) None
    (Some (about_center p1 p2 (positive rx ry) rotation large sweep)))
