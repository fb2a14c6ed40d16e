-- A run of the program: the steps that it makes one after the other, each on any piece, with any room, and then the end. What is printed is what each leaves in its list.
use Rattle.std.specs.Prelude.{ℕ, ◌≡◌, Bool, true, List, [], ◌∷◌, ◌++◌, take, Float}
use Rattle.desk_lines.specs.Hand.{first}
use Rattle.desk_output.specs.Reading.{Reading, fed}
use Rattle.desk_stream.specs.Step.{After, stepped, finished}

-- what a step is lent
pub record Lent : Type 0 where
  pub piece : List ℕ
  pub room : List Float

abbrev pub taken : Lent → List ℕ
taken l = first l.piece

abbrev pub step_of : Reading → Lent → After
step_of q l = stepped q l.piece l.room

-- the bytes that the steps took, those that they printed, and what is known then
pub record Ran : Type 0 where
  pub bytes : List ℕ
  pub printed : List ℕ
  pub reading : Reading

unfoldable pub ran : Reading → List Lent → Ran
ran q [] = record { bytes = []; printed = []; reading = q }
ran q (l ∷ ls) =
    let a = step_of q l in
    let more = ran a.reading ls in
    record { bytes = taken l ++ more.bytes; printed = a.out ++ more.printed; reading = more.reading }

-- what the end prints
abbrev pub end_of : Ran → List Float → List ℕ
end_of r room = (finished r.reading room).out

-- ---- what the program says of its own state

-- after these bytes, q having been known before them
abbrev pub Knows : Reading → List ℕ → Reading → Type 0
Knows q bytes r = r ≡ (fed q bytes).reading

-- after a piece: of its bytes up to a place, and of all where its steps' output was written
pub record KnowsPart (q : Reading) (piece : List ℕ) (written : Bool) (r : Reading) : Type 0 where
  pub up_to : ℕ
  pub knows : Knows q (take up_to piece) r
  pub all : written ≡ true → take up_to piece ≡ piece

-- after some bytes: the contract of a read does not say which
pub record KnowsSome (q r : Reading) : Type 0 where
  pub bytes : List ℕ
  pub knows : Knows q bytes r
