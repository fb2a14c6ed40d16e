-- `sine::angle::split` meets its contract.
use Rattle.std.proofs.Common.{◌≡◌, ◌^◌, ◌≤◌, refl, arith}
use Rattle.sine.specs.Node.{node, under, rest}
use Rattle.sine.proofs.Sizes.{rest_le, square_le}
use Rattle.sine.proofs.angle.split.Goals as goal

pub high-z-requires : goal.high-z-requires
unfolding rest node
high-z-requires c =
    let e : c.apart-g.result ≡ rest c.args.n = c.apart-g.ensures in
    omega (arith, rest_le c.args.n)

pub short_versine-requires : goal.short_versine-requires
unfolding rest node
short_versine-requires c =
    let g = c.apart-g.result in
    let e : g ≡ rest c.args.n = c.apart-g.ensures in
    let h : g ≤ 2 ^ 61 = omega (arith, rest_le c.args.n) in
    omega (arith, square_le g h, c.high-z.ensures)

pub short_sine-requires : goal.short_sine-requires
unfolding rest node
short_sine-requires c =
    let g = c.apart-g.result in
    let e : g ≡ rest c.args.n = c.apart-g.ensures in
    let h : g ≤ 2 ^ 61 = omega (arith, rest_le c.args.n) in
    (h, omega (arith, square_le g h, c.high-z.ensures))

pub returns : goal.returns
unfolding rest node under
returns c =
    let high = c.high-z.ensures in
    let apart = c.apart-g.ensures in
    record {
      b_is = c.node_sine.ensures;
      c_is = c.node_cosine.ensures;
      u_is = refl;
      v_is = simp (c.short_versine.ensures, high, apart);
      s_is = simp (c.short_sine.ensures, high, apart);
    }
