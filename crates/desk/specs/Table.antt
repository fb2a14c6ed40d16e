-- 01, 'The program arcdesk and its lines': "Records are numbered from 1, decimal without leading zeros, at most 64." A table is the list of the records taken so far, in order.
use Rattle.std.specs.Prelude.{ℕ, ◌-◌, Bool, ◌&&◌, [], ◌∷◌, ◌++◌, leb, ltb, get_or, length}
use Rattle.std.specs.Float.{nan}
use Rattle.curves.specs.declared.Curve.{Curve}
use Rattle.curves.specs.declared.Curve.TheVariants.{Segment}
use Rattle.desk.specs.declared.Table.{Table}

abbrev pub most : ℕ
most = 64

abbrev pub empty : Table
empty = []

-- whether there is a record of that number
unfoldable pub held : Table → ℕ → Bool
held t k = ltb 0 k && leb k (length t)

-- what a record that is not held is taken for
abbrev pub nowhere : Curve
nowhere = Segment nan nan nan nan

-- the first record is number 1
abbrev pub record_at : Table → ℕ → Curve
record_at t k = get_or t (k - 1) nowhere

abbrev pub stored : Table → Curve → Table
stored t c = t ++ c ∷ []
