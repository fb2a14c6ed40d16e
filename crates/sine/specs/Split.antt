-- An angle n taken apart, as the code hands the parts from function to function.
use Rattle.std.specs.Prelude.{◌≡◌, ℕ, Bool, slice_index}
use Rattle.fixed.specs.High.{high}
use Rattle.sine_table.specs.Table.{sines, cosines}
use Rattle.sine.specs.Node.{node, under, rest}
use Rattle.sine.specs.Short.{short_sine, short_versine}

-- the node's row b, c, whether n lies under the node, and the rest's versine v and sine s
pub record Parts (n b c : ℕ) (u : Bool) (v s : ℕ) : Type 0 where
  pub b_is : b ≡ slice_index sines (node n)
  pub c_is : c ≡ slice_index cosines (node n)
  pub u_is : u ≡ under n
  pub v_is : v ≡ short_versine (high (rest n) (rest n))
  pub s_is : s ≡ short_sine (rest n) (high (rest n) (rest n))
