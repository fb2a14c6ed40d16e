-- `sine::steps::short_sine` meets its contract.
use Rattle.std.proofs.Common.{◌^◌, ◌≤◌, arith}
use Rattle.fixed.proofs.Products.{high_le}
use Rattle.sine.proofs.Sizes.{lack-le}
use Rattle.sine.proofs.steps.short_sine.Goals as goal

pub high-requires : goal.high-requires
high-requires c = omega (arith, lack-le c.args.z c.requires.1)

pub overflow_sub-result : goal.overflow_sub-result
overflow_sub-result c =
    let g = c.args.g in
    let q = c.lack.result in
    let b : q ≤ 2 ^ 58 = omega (arith, lack-le c.args.z c.requires.1) in
    let h : g ≤ g = omega arith in
    omega (arith, high_le g q g (2 ^ 58) h b)
