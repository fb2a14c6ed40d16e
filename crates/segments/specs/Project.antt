-- 000, `project_onto_segment` and `point_to_segment_dist` ("Distance from a sketch-space point to a line segment"), operation by operation.
use Rattle.std.specs.Prelude.{cond, Float}
use Rattle.std.specs.Float.Ieee.{lt}
use Rattle.laws.specs.Rounded.{◌⊕◌, ◌⊖◌, ◌⊗◌, ◌⊘◌}
use Rattle.laws.specs.Literal.{zero, one, ten⁻¹²}
use Rattle.scalar.specs.Clamp.{clamp}
use Rattle.root.specs.Norm.{norm}
use Rattle.curves.specs.declared.Point.{Point}

unfoldable pub distance : Point → Point → Float
distance p q = norm (p.x ⊖ q.x) (p.y ⊖ q.y)

-- the parameter of the foot of p, clamped to the segment
unfoldable pub along : Point → Point → Float → Float → Float → Float
along p a dx dy len2 = clamp (((p.x ⊖ a.x) ⊗ dx ⊕ (p.y ⊖ a.y) ⊗ dy) ⊘ len2) zero one

unfoldable pub project_onto_segment : Point → Point → Point → Point
project_onto_segment p a b =
    let dx = b.x ⊖ a.x in
    let dy = b.y ⊖ a.y in
    let len2 = dx ⊗ dx ⊕ dy ⊗ dy in
    let t = along p a dx dy len2 in
    cond (lt len2 ten⁻¹²) a (record { x = a.x ⊕ t ⊗ dx; y = a.y ⊕ t ⊗ dy })

-- The Rust writes the projection out once more. Where the segment is short it measures to a, which is the projection there.
unfoldable pub point_to_segment_dist : Point → Point → Point → Float
point_to_segment_dist p a b = distance p (project_onto_segment p a b)
