-- The roots that are not worked out, by the tests of `sqrt` against 0.0: of plus infinity, of a zero, and of what is not above zero.
use mathlib.Core.Path.{◌≡◌, refl, sym, ap, ◌∙◌, subst}
use mathlib.Core.Bool.{Bool, true, false, ◌||◌, beq, true≢false, false≢true}
use Prim.Native.Nat.{ℕ, zero, suc, ◌*◌, ◌<◌}
use native.Mathlib.Nat.{zero-mul, mul-pos, zero-lt-suc, lt_irrefl}
use lib.IntN.{ℤ}
use lib.Dec.{T, eqb, eqb→eq}
use lib.Ieee.{Float, nan, inf, fin, up, down, level, lt, eq, of_bits}
use lib.Ieee.Fits.{up_pos, and_l}
use Rattle.laws.proofs.Positive.{Zero, zero_below}
use Rattle.root.specs.SquareRoot.{square_root}

-- ---- a test `==` against zero, by the sizes

level_zero : (s : Bool) (a b : ℕ) → a ≡ 0 → b ≡ 0 → level s a false b ≡ true
level_zero true a b e g = rw (e, g) refl
level_zero false a b e g = rw (e, g) refl

level_same : (s : Bool) (a b : ℕ) → level s a false b ≡ true → a ≡ b
level_same s a b h = eqb→eq a b (and_l (eqb a b) (beq s false || eqb a 0) (subst T (sym h) tt))

none : (e : ℤ) → 0 * up e * 1 ≡ 0
none e = ap (λ (x : ℕ). x * 1) (zero-mul (up e))

some : (m : ℕ) (e : ℤ) → 0 < suc m * up e * 1
some m e = mul-pos (mul-pos (zero-lt-suc m) (up_pos e)) (zero-lt-suc 0)

-- ---- the roots

pub root_of_infinity : (x : Float) → x ≡ inf false → x ≡ square_root x
unfolding square_root
root_of_infinity x e = e ∙ sym (ap square_root e)

pub root_of-zero : (x : Float) → eq x Zero ≡ true → x ≡ square_root x
unfolding square_root eq of_bits
root_of-zero nan h = absurd (false≢true h)
root_of-zero (inf s) h = absurd (false≢true h)
root_of-zero (fin s zero e) h = refl
root_of-zero (fin s (suc m) e) h = absurd (lt_irrefl 0 (subst (λ (x : ℕ). 0 < x) (level_same s (suc m * up e * 1) (0 * down e) h ∙ zero-mul (down e)) (some m e)))

pub root_of-none : (x : Float) → lt Zero x ≡ false → eq x Zero ≡ false → nan ≡ square_root x
unfolding square_root lt eq of_bits
root_of-none nan h g = refl
root_of-none (inf true) h g = refl
root_of-none (inf false) h g = absurd (true≢false h)
root_of-none (fin s zero e) h g = absurd (true≢false (sym (level_zero s (0 * up e * 1) (0 * down e) (none e) (zero-mul (down e))) ∙ g))
root_of-none (fin true (suc m) e) h g = refl
root_of-none (fin false (suc m) e) h g = absurd (true≢false (sym (zero_below m e) ∙ h))
