-- 000: `(p.x - q.x).powi(2) + (p.y - q.y).powi(2)`, by which points are compared without a root.
use Rattle.std.specs.Prelude.{Float}
use Rattle.laws.specs.Rounded.{◌⊕◌, ◌⊖◌, square}
use Rattle.curves.specs.declared.Point.{Point}

abbrev pub squared_dist : Point → Point → Float
squared_dist p q = square (p.x ⊖ q.x) ⊕ square (p.y ⊖ q.y)
