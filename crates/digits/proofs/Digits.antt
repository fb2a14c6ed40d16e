-- The digits of a number from the last one on, and how many they are.
use mathlib.Core.Path.{◌≡◌, refl, sym, ap, ◌∙◌}
use mathlib.Core.Bool.{Bool, true, false}
use mathlib.Core.List.{List, [], ◌∷◌, ◌++◌, append_assoc, append-nil}
use Prim.Native.Nat.{ℕ, zero as nought, suc, ◌+◌, ◌*◌, ◌-◌, ◌/◌, ◌%◌, ◌^◌, ◌≤◌, ◌<◌}
use native.Mathlib.Nat.{not-suc-le-zero, div-one, div-div-eq-div-mul, pow-suc}
use Rattle.std.proofs.Common.{pow-add}
use native.Mathlib.Omega.{arith}
use borrow.Author.Tests.{lt-ltb, le-ltb, ltb-true, ltb-false}
use lib.Dec.{ltb}
use lib.ListN.{length, get_or, drop, length-append, drop_of_length-le}
use lib.Seq.{drop-cons}
use native.Mathlib.Numerals.{add-one}
use Rattle.std.proofs.Math.Seq.{append_snoc}
use Rattle.digits.specs.Decimal.{decimal_digit, decimals, decimal}
use Rattle.digits.specs.Hex.{hex_digit, hex_digits}

snoc_length : (l : List ℕ) (b : ℕ) → length (l ++ b ∷ []) ≡ suc (length l)
snoc_length l b = length-append l (b ∷ []) ∙ one (length l)
  where
    one : (k : ℕ) → k + 1 ≡ suc k
    one k = omega arith

-- ---- hex digits

pub hex-length : (k n : ℕ) → length (hex_digits k n) ≡ k
unfolding hex_digits
hex-length nought n = refl
hex-length (suc k) n = snoc_length (hex_digits k (n / 16)) (hex_digit (n % 16)) ∙ ap suc (hex-length k (n / 16))

-- the first of k + 1, which a shift brings to the front, and the other k
pub hex-first : (k n : ℕ) → hex_digits (suc k) n ≡ hex_digit (n / 2 ^ (4 * k) % 16) ∷ hex_digits k n
unfolding hex_digits
hex-first nought n = rw div-one refl
hex-first (suc k) n =
    ap (λ (l : List ℕ). l ++ hex_digit (n % 16) ∷ []) (hex-first k (n / 16))
    ∙ ap (λ (i : ℕ). hex_digit (i % 16) ∷ (hex_digits k (n / 16) ++ hex_digit (n % 16) ∷ [])) (div-div-eq-div-mul n 16 (2 ^ (4 * k)) ∙ ap (λ (i : ℕ). n / i) (shifted k))
  where
    shifted : (k : ℕ) → 16 * 2 ^ (4 * k) ≡ 2 ^ (4 * suc k)
    shifted k = sym (ap (λ (i : ℕ). 2 ^ i) (omega arith) ∙ pow-add 2 4 (4 * k))

-- the first of those that are left goes behind what stands
pub hex-next : (l : List ℕ) (k n : ℕ) → 0 < k → l ++ hex_digit (n / 2 ^ (4 * (k - 1)) % 16) ∷ [] ++ hex_digits (k - 1) n ≡ l ++ hex_digits k n
hex-next l nought n h = absurd (not-suc-le-zero h)
hex-next l (suc k) n h =
    let less : suc k - 1 ≡ k = omega arith in
    rw less (append_assoc l _ (hex_digits k n) ∙ ap (λ (x : List ℕ). l ++ x) (sym (hex-first k n)))

pub hex-none : (l : List ℕ) (k n : ℕ) → k ≡ 0 → l ++ hex_digits k n ≡ l
unfolding hex_digits
hex-none l k n e = rw e (append-nil l)

-- ---- one digit and the rest

decimals_few : (k n : ℕ) → n < 10 → decimals (suc k) n ≡ decimal_digit n ∷ []
unfolding decimals
decimals_few k n h = rw (lt-ltb n 10 h) refl

decimals_many : (k n : ℕ) → 10 ≤ n → decimals (suc k) n ≡ decimals k (n / 10) ++ decimal_digit (n % 10) ∷ []
unfolding decimals
decimals_many k n h = rw (le-ltb n 10 h) refl

few_length : (k n : ℕ) → n < 10 → length (decimals (suc k) n) ≡ 1
few_length k n h = ap length (decimals_few k n h)

many_length : (k n : ℕ) → 10 ≤ n → length (decimals (suc k) n) ≡ suc (length (decimals k (n / 10)))
many_length k n h = ap length (decimals_many k n h) ∙ snoc_length (decimals k (n / 10)) (decimal_digit (n % 10))

pub decimals-length : (k n : ℕ) → length (decimals k n) ≤ k
unfolding decimals
decimals-length nought n = omega arith
decimals-length (suc k) n = go (ltb n 10) refl (decimals-length k (n / 10))
  where
    go : (b : Bool) → ltb n 10 ≡ b → length (decimals k (n / 10)) ≤ k → length (decimals (suc k) n) ≤ suc k
    go true e h = omega (arith, few_length k n (ltb-true n 10 e))
    go false e h = omega (arith, many_length k n (ltb-false n 10 e))

-- ---- the lowest digits, one before the other

-- the digits of n that stand, of which `rest` is what is left, of at most k digits
pub record Written (k : ℕ) (digits : List ℕ) (rest n : ℕ) : Type 0 where
  pub few : k ≤ 20
  pub below : rest * 10 ^ (20 - k) < 2 ^ 64
  pub all : decimals k rest ++ digits ≡ decimal n

pub written-none : (n : ℕ) → n < 2 ^ 64 → Written 20 [] n n
written-none n h = record { few = omega arith; below = omega arith; all = append-nil (decimal n) }

-- a number of 64 bits has 20 digits only with a 1 before the others
not-the-last : (k rest : ℕ) → rest * 10 ^ (20 - k) < 2 ^ 64 → 2 ≤ rest → 2 ≤ k
not-the-last nought rest h many = absurd (omega arith)
not-the-last (suc nought) rest h many = absurd (omega arith)
not-the-last (suc (suc k)) rest h many = omega arith

-- what a division leaves stands one digit higher
divided : (q r p : ℕ) → (q * 10 + r) * p < 2 ^ 64 → q * (p * 10) < 2 ^ 64
divided q r p h = omega arith

decimals_more : (k n : ℕ) → 10 ≤ n → 2 ≤ k → decimals k n ≡ decimals (k - 1) (n / 10) ++ decimal_digit (n % 10) ∷ []
decimals_more nought n h l = absurd (omega arith)
decimals_more (suc k) n h l =
    let one : suc k - 1 ≡ k = omega arith in
    rw one (decimals_many k n h)

module _ {k : ℕ} {digits : List ℕ} {rest n : ℕ} (w : Written k digits rest n) where
  pub written-more : 2 ≤ rest → 2 ≤ k
  written-more many = not-the-last k rest w.below many

  pub written-next : 10 ≤ rest → Written (k - 1) (decimal_digit (rest % 10) ∷ digits) (rest / 10) n
  written-next many =
      let more = written-more (omega arith) in
      let turn : 20 - (k - 1) ≡ suc (20 - k) = omega (arith, w.few) in
      let parts : rest ≡ rest / 10 * 10 + rest % 10 = omega arith in
      record {
        few = omega (arith, w.few);
        below = rw (turn, pow-suc 10 (20 - k)) (divided (rest / 10) (rest % 10) (10 ^ (20 - k)) (rw (← parts) w.below));
        all = sym (append_snoc (decimals (k - 1) (rest / 10)) (decimal_digit (rest % 10)) digits) ∙ ap (λ (l : List ℕ). l ++ digits) (sym (decimals_more k rest many more)) ∙ w.all;
      }

  pub written-last : rest < 10 → 0 < k → decimal_digit rest ∷ digits ≡ decimal n
  written-last few some =
      let one : k ≡ suc (k - 1) = omega arith in
      ap (λ (l : List ℕ). l ++ digits) (sym (ap (λ (i : ℕ). decimals i rest) one ∙ decimals_few (k - 1) rest few)) ∙ w.all

-- ---- the row of them, appended one after the other
pub appended-next : (l row : List ℕ) (i : ℕ) → i < length row → (l ++ get_or row i 0 ∷ []) ++ drop (i + 1) row ≡ l ++ drop i row
appended-next l row i h = append_snoc l (get_or row i 0) (drop (i + 1) row) ∙ ap (λ (r : List ℕ). l ++ r) (sym (drop-cons row i 0 h ∙ rw (← add-one i) refl))

pub appended-done : (l row : List ℕ) (i : ℕ) → length row ≤ i → l ++ drop i row ≡ l
appended-done l row i h = ap (λ (r : List ℕ). l ++ r) (drop_of_length-le row h) ∙ append-nil l
