-- The arithmetic of mending a guess: by how much the number under the root is above the guess's square, in steps of 27 digits, and where the root is one off.
use mathlib.Core.Path.{◌≡◌, ap, ◌∙◌, subst}
use Prim.Native.Nat.{ℕ, zero, suc, ◌+◌, ◌-◌, ◌*◌, ◌/◌, ◌%◌, ◌^◌, ◌≤◌, ◌<◌}
use native.Mathlib.Omega.{arith}
use native.Mathlib.Nat.{lt_irrefl}
use mathlib.Core.Bool.{Bool, true, false, not}
use lib.Dec.{T, leb, ltb, leb→le, nleb→lt, ltb→lt, nltb→le}
use Rattle.std.specs.Int.{from_bool}
use Rattle.root.specs.Steps.{Nearest}
use Rattle.laws.proofs.Powers.{mul-lt-pow}

-- ---- the guess in two halves

pub high_half : (s : ℕ) → s < 2 ^ 53 → s / 2 ^ 27 < 2 ^ 26
high_half s h = omega arith

pub low_half : (s : ℕ) → s % 2 ^ 27 < 2 ^ 27
low_half s = omega arith

pub cross : (s : ℕ) → s < 2 ^ 53 → 2 * (s / 2 ^ 27) * (s % 2 ^ 27) < 2 ^ 54
cross s h = mul-lt-pow 27 27 (twice (s / 2 ^ 27) (high_half s h)) (low_half s)
  where
    twice : (a : ℕ) → a < 2 ^ 26 → 2 * a < 2 ^ 27
    twice a h = omega arith

pub low_square : (s : ℕ) → s % 2 ^ 27 * (s % 2 ^ 27) < 2 ^ 54
low_square s = mul-lt-pow 27 27 (low_half s) (low_half s)

-- ---- its square taken from the number, of which a, b and c are what is left after each step

square-of : (s : ℕ) → s * s ≡ s / 2 ^ 27 * (s / 2 ^ 27) * 2 ^ 54 + 2 * (s / 2 ^ 27) * (s % 2 ^ 27) * 2 ^ 27 + s % 2 ^ 27 * (s % 2 ^ 27)
square-of s = ap (λ (x : ℕ). x * x) (whole s) ∙ halves (s / 2 ^ 27) (s % 2 ^ 27)
  where
    whole : (s : ℕ) → s ≡ s / 2 ^ 27 * 2 ^ 27 + s % 2 ^ 27
    whole s = omega arith

    halves : (h l : ℕ) → (h * 2 ^ 27 + l) * (h * 2 ^ 27 + l) ≡ h * h * 2 ^ 54 + 2 * h * l * 2 ^ 27 + l * l
    halves h l = omega arith

steps : (top rest hh hl ll a b c : ℕ) → a + hh ≡ top + 1 → b + hl ≡ a * 2 ^ 27 + 2 ^ 28 → c + ll ≡ (b + 2 ^ 27) * 2 ^ 27 + rest
    → c + (hh * 2 ^ 54 + hl * 2 ^ 27 + ll) ≡ top * 2 ^ 54 + rest + 2 ^ 56
steps top rest hh hl ll a b c x y z = omega arith

number : (w : ℕ) → w / 2 ^ 12 * 2 ^ 54 + w % 2 ^ 12 * 2 ^ 42 ≡ w * 2 ^ 42
number w = omega arith

-- a and b as the code works them out, and the third from them
module _ (w s a b : ℕ) (x : a + s / 2 ^ 27 * (s / 2 ^ 27) ≡ w / 2 ^ 12 + 1) (y : b + 2 * (s / 2 ^ 27) * (s % 2 ^ 27) ≡ a * 2 ^ 27 + 2 ^ 28) where
  abbrev pub over : ℕ
  over = (b + 2 ^ 27) * 2 ^ 27 + w % 2 ^ 12 * 2 ^ 42 - s % 2 ^ 27 * (s % 2 ^ 27)

  pub excess : b < 2 ^ 30 - 2 ^ 27 → (over < 2 ^ 62) × (over + s * s ≡ w * 2 ^ 42 + 2 ^ 56)
  excess h =
      let l = s % 2 ^ 27 in
      let ll : l * l < 2 ^ 54 = low_square s in
      let whole : over + l * l ≡ (b + 2 ^ 27) * 2 ^ 27 + w % 2 ^ 12 * 2 ^ 42 = omega arith in (
        omega arith,
        ap (λ (z : ℕ). over + z) (square-of s)
            ∙ steps (w / 2 ^ 12) (w % 2 ^ 12 * 2 ^ 42) (s / 2 ^ 27 * (s / 2 ^ 27)) (2 * (s / 2 ^ 27) * l) (l * l) a b over x y whole
            ∙ ap (λ (z : ℕ). z + 2 ^ 56) (number w),
      )

-- ---- the guess, or the number before or after it

module _ (n c : ℕ) where
  one_less : (s : ℕ) → c + suc s * suc s ≡ n + 2 ^ 56 → 2 ^ 56 + 2 < c + 3 * suc s → c + suc s ≤ 2 ^ 56 → Nearest n s
  one_less s e h g = record { above = omega arith; below = omega arith }

  itself : (s : ℕ) → c + s * s ≡ n + 2 ^ 56 → 2 ^ 56 < c + s → c ≤ 2 ^ 56 + s → Nearest n s
  itself s e h g = record { above = omega arith; below = omega arith }

  one_more_lem : (s : ℕ) → c + s * s ≡ n + 2 ^ 56 → c ≤ 2 ^ 56 + 2 + 3 * s → 2 ^ 56 + s < c → Nearest n (s + 1)
  one_more_lem s e h g = record { above = omega arith; below = omega arith }

  pub choice : (s : ℕ) → 0 < s → c + s * s ≡ n + 2 ^ 56 → 2 ^ 56 + 2 < c + 3 * s → c ≤ 2 ^ 56 + 2 + 3 * s
      → Nearest n (s + from_bool (ltb (2 ^ 56 + s) c) - from_bool (leb (c + s) (2 ^ 56)))
  choice zero p e h g = absurd (lt_irrefl 0 p)
  choice (suc s) p e h g =
      go (ltb (2 ^ 56 + suc s) c) (leb (c + suc s) (2 ^ 56)) (ltb→lt (2 ^ 56 + suc s) c) (nltb→le (2 ^ 56 + suc s) c) (leb→le (c + suc s) (2 ^ 56)) (nleb→lt (c + suc s) (2 ^ 56))
    where
      go : (a b : Bool) → (T a → 2 ^ 56 + suc s < c) → (T (not a) → c ≤ 2 ^ 56 + suc s) → (T b → c + suc s ≤ 2 ^ 56) → (T (not b) → 2 ^ 56 < c + suc s)
          → Nearest n (suc s + from_bool a - from_bool b)
      go true true x y z w = absurd (both (x tt) (z tt))
        where
          both : 2 ^ 56 + suc s < c → c + suc s ≤ 2 ^ 56 → ⊥
          both x z = omega arith
      go true false x y z w = subst (Nearest n) (more (suc s)) (one_more_lem (suc s) e g (x tt))
        where
          more : (s : ℕ) → s + 1 ≡ s + 1 - 0
          more s = omega arith
      go false true x y z w = subst (Nearest n) (less s) (one_less s e h (z tt))
        where
          less : (s : ℕ) → s ≡ suc s + 0 - 1
          less s = omega arith
      go false false x y z w = subst (Nearest n) (same (suc s)) (itself (suc s) e (w tt) (y tt))
        where
          same : (s : ℕ) → s ≡ s + 0 - 0
          same s = omega arith
