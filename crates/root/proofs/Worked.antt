-- Worked roots, computed from the definition: the pattern of a number and that of its root.
use mathlib.Core.Path.{◌≡◌, refl}
use mathlib.Core.List.{List, [], ◌∷◌}
use mathlib.Core.Bool.{Bool, true, ◌&&◌}
use Prim.Native.Nat.{ℕ}
use lib.Dec.{eqb}
use lib.Ieee.{binary64, of_bits, to_bits}
use Rattle.root.specs.SquareRoot.{square_root}

pub record Row : Type 0 where
  pub number : ℕ
  pub root : ℕ

unfoldable pub row : ℕ → ℕ → Row
row x r = record { number = x; root = r }

unfoldable pub rows : List Row
unfolding row
rows =
    -- 2, 3 and a quarter
    row 0x4000_0000_0000_0000 0x3ff6_a09e_667f_3bcd ∷
    row 0x4008_0000_0000_0000 0x3ffb_b67a_e858_4caa ∷
    row 0x3fd0_0000_0000_0000 0x3fe0_0000_0000_0000 ∷
    -- the number before 1 is its own root, and that after 1 has root 1
    row 0x3fef_ffff_ffff_ffff 0x3fef_ffff_ffff_ffff ∷
    row 0x3ff0_0000_0000_0001 0x3ff0_0000_0000_0000 ∷
    -- the smallest number, the largest subnormal one and the largest number
    row 0x1 0x1e60_0000_0000_0000 ∷
    row 0xf_ffff_ffff_ffff 0x1fff_ffff_ffff_ffff ∷
    row 0x7fef_ffff_ffff_ffff 0x5fef_ffff_ffff_ffff ∷
    -- the zeros and plus infinity
    row 0x0 0x0 ∷
    row 0x8000_0000_0000_0000 0x8000_0000_0000_0000 ∷
    row 0x7ff0_0000_0000_0000 0x7ff0_0000_0000_0000 ∷
    -- minus 1, minus infinity and a NaN
    row 0xbff0_0000_0000_0000 0x7ff8_0000_0000_0000 ∷
    row 0xfff0_0000_0000_0000 0x7ff8_0000_0000_0000 ∷
    row 0x7ff0_0000_0000_0001 0x7ff8_0000_0000_0000 ∷
    []

unfoldable pub holds : Row → Bool
holds r = eqb (to_bits binary64 (square_root (of_bits binary64 r.number))) r.root

unfoldable pub every : List Row → Bool
unfolding holds
every [] = true
every (r ∷ rs) = holds r && every rs

pub worked : every rows ≡ true
unfolding every rows holds square_root of_bits to_bits
worked = refl
