-- The places of a table: its records, and blanks behind them, which no answer speaks of.
use Rattle.std.specs.Prelude.{ℕ, ◌≡◌, ◌-◌, List, ◌++◌, length, take, replicate}
use Rattle.laws.specs.Literal.{zero}
use Rattle.curves.specs.declared.Curve.{Curve}
use Rattle.curves.specs.declared.Curve.TheVariants.{Segment}
use Rattle.desk.specs.Table.{most}

abbrev pub blank : Curve
blank = Segment zero zero zero zero

abbrev pub blanks : ℕ → List Curve
blanks n = replicate n blank

abbrev pub laid : List Curve → List Curve
laid records = records ++ blanks (most - length records)

-- n records in their places
pub record IsLaid (places : List Curve) (n : ℕ) : Type 0 where
  pub full : length places ≡ most
  pub counted : length (take n places) ≡ n
  pub back : laid (take n places) ≡ places
