-- How long the lines are at most, and where the next one starts.
use mathlib.Core.List.{List, [], ◌∷◌, append_assoc}
use Prim.Native.Nat.{ℕ, ◌+◌, ◌*◌, ◌≤◌}
use native.Mathlib.Omega.{arith}
use lib.ListN.{length, length-append}
use lib.Ieee.{Float, binary64, to_bits}
use Rattle.hits.specs.declared.CurveHit.{CurveHit}
use Rattle.digits.proofs.Digits.{hex-length, decimals-length}
use Rattle.desk_print.specs.Printed.{longest_numbers, longest_hit_line, count, number, head, numbers, hit_line, hit_lines}

pub count-length : (n : ℕ) → length (count n) ≤ 21
unfolding count
count-length n = omega (arith, decimals-length 20 n)

pub number-length : (x : Float) → length (number x) ≤ 17
unfolding number
number-length x = omega (arith, hex-length 16 (to_bits binary64 x))

pub head-length : (letter line : ℕ) → length (head letter line) ≤ 22
unfolding head
head-length letter line = omega (arith, count-length line)

pub numbers-length : (h : CurveHit) → length (numbers h) ≤ longest_numbers
unfolding numbers
numbers-length h = simp length-append (omega (arith, number-length h.t_a, number-length h.t_b, number-length h.pos.x, number-length h.pos.y))

pub hit_length : (line i : ℕ) (h : CurveHit) → length (hit_line line i h) ≤ longest_hit_line
unfolding hit_line
hit_length line i h = simp length-append (omega (arith, head-length 72 line, count-length i, numbers-length h))

pub hits_length : (line i : ℕ) (hs : List CurveHit) → length (hit_lines line i hs) ≤ longest_hit_line * length hs
unfolding hit_lines
hits_length line i [] = omega arith
hits_length line i (h ∷ hs) = omega (arith, length-append (hit_line line i h) (hit_lines line (i + 1) hs), hit_length line i h, hits_length line (i + 1) hs)

pub ruleset lengths = (append_assoc, length-append, count-length, number-length, head-length, numbers-length)
