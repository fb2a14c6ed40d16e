-- 01, 'Forms': "If an answer is an enum, a definition states this paper's number and values for each of the enum's cases." And: "A refusal returns its number and no other value".
use Rattle.std.specs.Prelude.{ℕ, cond, List, [], ◌∷◌, eqb, Float, Option, Some, None, Result, Ok, Err}
use Rattle.curves.specs.declared.Point.{Point}
use Rattle.curves.specs.declared.Radii.{Radii}
use Rattle.hits.specs.declared.Tally.{Tally}
use Rattle.checks.specs.declared.Refusal.{Refusal}
use Rattle.checks.specs.Refusal.{accepted, number_of}

-- the refusal's number, `accepted` for none; the numbers given back; the counts
pub record Answer : Type 0 where
  pub refusal : ℕ
  pub numbers : List Float
  pub counts : List ℕ

-- "A refusal returns its number and no other value"
abbrev pub refused : ℕ → Answer
refused n = record { refusal = n; numbers = []; counts = [] }

-- what would be told is withheld where n is a refusal
abbrev pub withheld : ℕ → Answer → Answer
withheld n told = cond (eqb n accepted) told (refused n)

unfoldable pub answered : ℕ → List Float → List ℕ → Answer
answered n numbers counts = withheld n (record { refusal = accepted; numbers = numbers; counts = counts })

-- what a call tells, by what its values say
abbrev pub told : {A : Type 0} → (A → Answer) → Result A Refusal → Answer
told says (Ok x) = says x
told says (Err r) = refused (number_of r)

-- what the Rust answers with `Option` tells, where n is the refusal of its `None`
abbrev pub told_or : {A : Type 0} → ℕ → (A → Answer) → Option A → Answer
told_or n says (Some x) = says x
told_or n says None = refused n

-- ---- what each answer says
abbrev pub values : List Float → Answer
values xs = record { refusal = accepted; numbers = xs; counts = [] }

abbrev pub number_told : Result Float Refusal → Answer
number_told = told (λ x. values (x ∷ []))

-- a position or a direction
abbrev pub pair_told : Result Point Refusal → Answer
pair_told = told (λ p. values (p.x ∷ p.y ∷ []))

abbrev pub radii_told : Result Radii Refusal → Answer
radii_told = told (λ r. values (r.a ∷ r.b ∷ []))

abbrev pub counted : List ℕ → Answer
counted ns = record { refusal = accepted; numbers = []; counts = ns }

-- how many hits were written to the room
abbrev pub found_told : Result ℕ Refusal → Answer
found_told = told (λ k. counted (k ∷ []))

-- hits, brackets, the three other fates, evaluations
abbrev pub tally_counts : Tally → List ℕ
tally_counts t = t.hits ∷ t.brackets ∷ t.outside_a ∷ t.outside_b ∷ t.doubles ∷ t.evaluations ∷ []

-- what the hunt counted; all but the hits are 0 where nothing is sampled
abbrev pub hunted_told : Result Tally Refusal → Answer
hunted_told = told (λ t. counted (tally_counts t))
