-- The parts of an angle: they are small enough, and the node's row turned by them is the rule's number.
use Rattle.std.proofs.Common.{◌≡◌, ℕ, ◌^◌, ◌≤◌, Bool, not, refl}
use Rattle.fixed.specs.High.{high}
use Rattle.sine.specs.Node.{node, rest}
use Rattle.sine.specs.Rule.{turned, sine_units, cosine_units}
use Rattle.sine.specs.Split.{Parts}
use Rattle.sine.proofs.Sizes.{rest_le, square_le, sine-le, versine_le, node-sine-le, node-cosine-le}

module _ {n b c : ℕ} {u : Bool} {v s : ℕ} (p : Parts n b c u v s) where
  pub node-sine_small : b ≤ 2 ^ 62
  node-sine_small = rw p.b_is (node-sine-le (node n))

  pub node-cosine_small : c ≤ 2 ^ 62
  node-cosine_small = rw p.c_is (node-cosine-le (node n))

  pub versine_small : v ≤ 2 ^ 59
  versine_small = rw p.v_is (versine_le (high (rest n) (rest n)) (square_le (rest n) (rest_le n)))

  pub sine_small : s ≤ 2 ^ 61
  sine_small = rw p.s_is (sine-le (rest n) (high (rest n) (rest n)) (rest_le n))

  pub parts-sine : turned b c v s u ≡ sine_units n
  unfolding sine_units
  parts-sine = rw (p.b_is, p.c_is, p.u_is, p.v_is, p.s_is) refl

  pub parts-cosine : turned c b v s (not u) ≡ cosine_units n
  unfolding cosine_units
  parts-cosine = rw (p.b_is, p.c_is, p.u_is, p.v_is, p.s_is) refl
