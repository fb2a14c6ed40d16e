-- 002, `ellipse_point` ("Point on a rotated ellipse at parametric angle `t`") and `ellipse_tangent` ("derivative of [`ellipse_point`] with respect to `t`"), operation by operation.
use Rattle.std.specs.Prelude.{Float}
use Rattle.std.specs.Float.Ieee.{neg}
use Rattle.laws.specs.Rounded.{◌⊕◌, ◌⊖◌, ◌⊗◌}
use Rattle.sine.specs.Rule.{sine, cosine}
use Rattle.curves.specs.declared.Point.{Point}

-- sr and cr are the rotation's sine and cosine, st and ct the angle's
abbrev pub turn_point : Point → Float → Float → Float → Float → Float → Float → Point
turn_point center rx ry sr cr st ct = record { x = center.x ⊕ rx ⊗ ct ⊗ cr ⊖ ry ⊗ st ⊗ sr; y = center.y ⊕ rx ⊗ ct ⊗ sr ⊕ ry ⊗ st ⊗ cr }

abbrev pub turn_tangent : Float → Float → Float → Float → Float → Float → Point
turn_tangent rx ry sr cr st ct = record { x = neg rx ⊗ st ⊗ cr ⊖ ry ⊗ ct ⊗ sr; y = neg rx ⊗ st ⊗ sr ⊕ ry ⊗ ct ⊗ cr }

unfoldable pub ellipse_point : Point → Float → Float → Float → Float → Point
ellipse_point center rx ry rot t = turn_point center rx ry (sine rot) (cosine rot) (sine t) (cosine t)

unfoldable pub ellipse_tangent : Float → Float → Float → Float → Point
ellipse_tangent rx ry rot t = turn_tangent rx ry (sine rot) (cosine rot) (sine t) (cosine t)
