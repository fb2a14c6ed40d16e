-- The sizes that the contracts of the code ask for, so that every whole number of the rule stays below 2 ^ 64.
use Rattle.std.specs.Prelude.{ℕ, ◌*◌, ◌^◌, ◌≤◌, true, false, Float}
use Rattle.std.specs.Float.{nan, inf, fin}
use Rattle.std.specs.Float.Ieee.{up, down}
use Rattle.arctan.specs.declared.table.Row.{Row}

-- a number from 0 to 1, and no -0
abbrev pub InUnit : Float → Type 0
InUnit nan = ⊥
InUnit (inf s) = ⊥
InUnit (fin true m e) = ⊥
InUnit (fin false m e) = m * up e ≤ down e

-- at 2 ^ 61: a coefficient, from 1 / 2 to 3, and a number, up to 7 / 2
abbrev pub Coefficient : ℕ → Type 0
Coefficient c = (2 ^ 60 ≤ c) × (c ≤ 3 * 2 ^ 61)

abbrev pub Number : ℕ → Type 0
Number q = q ≤ 7 * 2 ^ 60

-- at 2 ^ 62: a rest, up to 1 / 32
abbrev pub Rest : ℕ → Type 0
Rest h = h ≤ 2 ^ 57

pub record Fit (r : Row) : Type 0 where
  pub f0 : r.a0 ≤ 2 ^ 61
  pub f1 : Coefficient r.a1
  pub f2 : Coefficient r.a2
  pub f3 : Coefficient r.a3
  pub f4 : Coefficient r.a4
  pub f5 : Coefficient r.a5
  pub f6 : Coefficient r.a6
  pub f7 : Coefficient r.a7
  pub f8 : Coefficient r.a8
  pub f9 : Coefficient r.a9
