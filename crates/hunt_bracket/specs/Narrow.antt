-- 01, 'Span and crossings': "A bracket is halved 60 times as in 000, then one point is worked out at its middle." 000: `let mid = 0.5 * (lo + hi); let gm = g(a.point_at(mid));
-- if g_lo * gm <= 0.0 { hi = mid; } else { lo = mid; g_lo = gm; }`. g is the value of an angle.
use Rattle.std.specs.Prelude.{ℕ, zero as nought, suc, cond, List, [], ◌∷◌, ◌++◌, Float}
use Rattle.std.specs.Float.Ieee.{le}
use Rattle.laws.specs.Rounded.{◌⊗◌}
use Rattle.laws.specs.Literal.{zero}
use Rattle.laws.specs.Middle.{middle}
use Rattle.hunt_bracket.specs.declared.Cell.{Cell}
use Rattle.hunt_bracket.specs.declared.Stretch.{Stretch}

-- a cell before its first halving
abbrev pub opened : Cell → Stretch
opened c = record { lo = c.lo; hi = c.hi; g_lo = c.g_lo }

abbrev pub middle_of : Stretch → Float
middle_of s = middle s.lo s.hi

unfoldable pub halved : (Float → Float) → Stretch → Stretch
halved g s =
    let mid = middle_of s in
    let gm = g mid in
    cond (le (s.g_lo ⊗ gm) zero) (record { lo = s.lo; hi = mid; g_lo = s.g_lo }) (record { lo = mid; hi = s.hi; g_lo = gm })

-- n halvings
unfoldable pub narrowed : (Float → Float) → ℕ → Stretch → Stretch
narrowed g nought s = s
narrowed g (suc n) s = halved g (narrowed g n s)

-- the angle of a bracket's point: `let t_hit = 0.5 * (lo + hi)`
unfoldable pub last : (Float → Float) → Stretch → Float
last g s = middle_of (narrowed g 60 s)

-- the angles that n halvings look at
unfoldable pub middles : (Float → Float) → ℕ → Stretch → List Float
middles g nought s = []
middles g (suc n) s = middles g n s ++ middle_of (narrowed g n s) ∷ []
