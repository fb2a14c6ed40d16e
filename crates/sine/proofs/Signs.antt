-- The rule's float changes its sign with `flip`.
use Rattle.std.proofs.Common.{◌≡◌, ℕ, ◌*◌, ◌^◌, Bool, true, false, cond, not, negsuc, sym, refl, ap, ◌∙◌}
use lib.Count.{count_trailing_zeros}
use lib.Ieee.{Float, nan, inf, fin, binary64, up, down, round, odd, of_bits, of_fields, neg, mul, unlike}
use Rattle.laws.proofs.SignBit.{round-neg}
use Rattle.sine.specs.Rule.{floated}

unit_odd : (x : Float) (s : Bool) → mul binary64 x (fin (not s) 1 (negsuc 52)) ≡ neg (mul binary64 x (fin s 1 (negsuc 52)))
unfolding mul neg
unit_odd nan s = refl
unit_odd (inf true) true = refl
unit_odd (inf true) false = refl
unit_odd (inf false) true = refl
unit_odd (inf false) false = refl
unit_odd (fin t m e) s =
    let a = m * up e * 1 in
    let c = down e * 2 ^ 53 in
    ap (λ (b : Bool). round binary64 b a c) (unlike-not t s) ∙ sym (round-neg binary64 (unlike t s) a c)
  where
    unlike-not : (t s : Bool) → unlike t (not s) ≡ not (unlike t s)
    unlike-not true true = refl
    unlike-not true false = refl
    unlike-not false true = refl
    unlike-not false false = refl

pub floated_odd : (k : ℕ) (b : Bool) → floated k (not b) ≡ neg (floated k b)
unfolding floated of_bits of_fields odd count_trailing_zeros neg
floated_odd k true = unit_odd _ true
floated_odd k false = unit_odd _ false

pub floated_flip : (k : ℕ) (flip : Bool) → cond flip (neg (floated k false)) (floated k false) ≡ floated k flip
floated_flip k true = sym (floated_odd k false)
floated_flip k false = refl
