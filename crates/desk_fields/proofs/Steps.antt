-- What the loops do at a turn.
use Rattle.std.proofs.Common.{◌≡◌, ℕ, suc, ◌+◌, ◌-◌, ◌*◌, ◌^◌, ◌<◌, ◌≤◌, List, [], ◌∷◌, Some, refl, arith}
use Rattle.std.proofs.lemmas.Option.{some_pair_parts}
use Rattle.std.proofs.lemmas.Grind.{pow_more}
use Rattle.std.proofs.Math.Nat.{pow-le-pow_right}
use native.Mathlib.Decide.{ℕ_discrete}
use borrow.Author.Tests.{eq-eqb, ne_eqb}
use Rattle.digits.specs.Hex.{hex_value}
use Rattle.desk_fields.specs.Field.{◌>>=◌, byte_of, tab_of, bits_after}

bits-suc : (k v : ℕ) (line : List ℕ) → bits_after (suc k) v line ≡ (byte_of line >>= λ p. hex_value p.0 >>= λ d. bits_after k (v * 16 + d) p.1)
unfolding bits_after
bits-suc k v line = refl

-- one hex digit more is read
pub bits_more : (i v : ℕ) (line : List ℕ) → i < 16 → bits_after (16 - i) v line ≡ (byte_of line >>= λ p. hex_value p.0 >>= λ d. bits_after (16 - (i + 1)) (v * 16 + d) p.1)
bits_more i v line h =
    let n : 16 - i ≡ suc (16 - (i + 1)) = omega arith in
    rw n (bits-suc (16 - (i + 1)) v line)

-- a digit more, where there are fewer than a number of 64 bits has
pub power_fits : (k : ℕ) → k < 16 → 16 ^ k * 16 ≤ 2 ^ 64
power_fits k h = rw pow_more at (pow-le-pow_right {n = 16} (omega arith) {i = k + 1} {j = 16} (omega arith))

-- ---- a byte and a tab that are read are there
pub byte_text : (line : List ℕ) (b : ℕ) (rest : List ℕ) → byte_of line ≡ Some (b, rest) → line ≡ b ∷ rest
byte_text [] b rest e = cc
byte_text (a ∷ line) b rest e = let p = some_pair_parts a b line rest e in rw (p.0, p.1)

pub tab_text : (line rest : List ℕ) (t : Unit) → tab_of line ≡ Some (t, rest) → line ≡ 9 ∷ rest
tab_text [] rest t e = cc
tab_text (a ∷ line) rest t e = elim (ℕ_discrete a 9) [
  | yes h ↦ let p = some_pair_parts tt t line rest (rw (eq-eqb a 9 h) at e) in rw (h, p.1)
  | no h ↦ let s = rw (ne_eqb a 9 h) at e in cc
]
