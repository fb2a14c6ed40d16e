-- 000: `(dx * dx + dy * dy).sqrt()` and `((ax - ux).powi(2) + (ay - uy).powi(2)).sqrt()`, the length of a vector: each operation rounded once.
use Rattle.std.specs.Prelude.{Float}
use Rattle.laws.specs.Rounded.{◌⊕◌, square}
use Rattle.root.specs.SquareRoot.{square_root}

unfoldable pub norm : Float → Float → Float
norm x y = square_root (square x ⊕ square y)
