-- A sample that words were read as: bench/src/bin/samples.rs.
use Rattle.std.specs.Prelude.{ℕ, ◌+◌, ◌≡◌, List, length, get_or}
use Rattle.replay_rows.specs.Number.{number_of}
use Rattle.replay_rows.specs.declared.sample.Sample.{Sample}

-- the call, what is lent, how many inputs and how many outputs are those that the words say, and no word is left over
pub record IsRead (row : List ℕ) (s : Sample) : Type 0 where
  pub words : s.words.now ≡ row
  pub call : number_of s.call ≡ get_or row 0 0
  pub a : s.lent.a ≡ get_or row 1 0
  pub b : s.lent.b ≡ get_or row 2 0
  pub out : s.lent.out ≡ get_or row 3 0
  pub counts : s.lent.counts ≡ get_or row 4 0
  pub inputs : s.inputs ≡ get_or row 5 0
  pub outputs : s.outputs ≡ get_or row (s.inputs + 7) 0
  pub whole : s.inputs + 8 + s.outputs ≡ length row
