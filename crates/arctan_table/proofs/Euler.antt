-- Euler's series, summed term by term, is the quotient of the two polynomials.
use mathlib.Core.Path.{◌≡◌, refl, sym, ◌∙◌, ap, subst}
use mathlib.Core.Bool.{Bool, true, ◌&&◌}
use mathlib.Core.List.{List, [], ◌∷◌}
use Prim.Native.Nat.{ℕ, zero, suc, ◌+◌, ◌*◌, ◌/◌, ◌≤◌, ◌^◌}
use native.Mathlib.Nat.{mul-add, add-mul, mul_assoc, mul_comm, mul_left_comm, mul_right_comm, mul-one, one-mul, zero-mul, mul-zero, add-zero, zero-add, pow-zero, pow-suc}
use native.Mathlib.Omega.{arith}
use lib.Dec.{T, eqb, eqb→eq, lit≤}
use lib.ListN.{length}
use lib.Pow.{pow-add}
use lib.Ieee.Fits.{and_l, and_r}
use Rattle.series.specs.Poly.{plus, scale, times, value}
use Rattle.series.proofs.Values.{value-plus, value-scale, value_raise, value-times}
use Rattle.series.proofs.Lengths.{length-scale, length-times}
use Rattle.arctan_table.specs.Euler as exact
use Rattle.series.specs.Factorial.{factorial}
use Rattle.arctan_table.specs.Euler.{term, terms}
use Rattle.arctan_table.proofs.Quotient.{odds, euler_from, euler, square, power, sums, grow, top, bottom}

-- e ∷ l as e w ^ length l + s (l)
unfoldable pub mix : ℕ → ℕ → List ℕ → ℕ
mix w s [] = 0
mix w s (e ∷ l) = e * w ^ length l + s * mix w s l

-- ---- the terms' coefficients are the list's, in units of 1 / o
unfoldable good_from : ℕ → ℕ → List ℕ → Bool
unfolding factorial
good_from o n [] = true
good_from o n (e ∷ l) = eqb (4 ^ n * (factorial n * factorial n) * o) (e * factorial (2 * n + 1)) && good_from o (suc n) l

euler_good : good_from (odds 63) 0 euler ≡ true
unfolding good_from odds euler euler_from factorial
euler_good = refl

first_part : (c o e f x r v w : ℕ) → c * o ≡ e * f → c * x * r * (o * (v * w)) ≡ x * (e * w) * (f * v * r)
first_part c o e f x r v w h =
    let i : c * x * r * (o * (v * w)) ≡ c * o * (x * (r * (v * w))) = simp (mul_assoc, mul_left_comm) in
    let j : e * f * (x * (r * (v * w))) ≡ x * (e * w) * (f * v * r) = simp (mul_assoc, mul_left_comm, mul_comm) in
    i ∙ (ap (λ (z : ℕ). z * (x * (r * (v * w)))) h ∙ j)

second_part : (p q k m r x s : ℕ) → p * k ≡ x * s * m * r → p * q * k ≡ x * (s * m) * (q * r)
second_part p q k m r x s h =
    let i : p * q * k ≡ p * k * q = mul_right_comm p q k in
    let j : x * s * m * r * q ≡ x * (s * m) * (q * r) = simp (mul_assoc, mul_left_comm, mul_comm) in
    i ∙ (ap (λ (z : ℕ). z * q) h ∙ j)

module _ (o a b : ℕ) where
  w : ℕ
  w = a * a + b * b

  odd_power : (n : ℕ) → a ^ (2 * suc n + 1) * b ≡ a ^ (2 * n + 1) * b * (a * a)
  odd_power n =
      let e : 2 * suc n + 1 ≡ 2 * n + 1 + 2 = omega arith in
      let f : a ^ 2 ≡ a * a = rw (pow-suc a 1, pow-suc a 0, pow-zero a, one-mul a) refl in
      ap (λ (z : ℕ). a ^ z * b) e ∙ (ap (λ (z : ℕ). z * b) (pow-add a (2 * n + 1) 2 ∙ ap (λ (z : ℕ). a ^ (2 * n + 1) * z) f) ∙ mul_right_comm (a ^ (2 * n + 1)) (a * a) b)

  terms_law : (l : List ℕ) (n : ℕ) → T (good_from o n l) → n + length l ≡ 64 →
      (terms (length l) n a b).top * (o * w ^ 64) ≡ a ^ (2 * n + 1) * b * mix w (a * a) l * (terms (length l) n a b).bottom
  unfolding terms term exact.plus mix good_from w
  terms_law [] n t e = rw (zero-mul (o * w ^ 64), mul-zero (a ^ (2 * n + 1) * b), zero-mul 1) refl
  terms_law (c ∷ l) n t e =
      let x = a ^ (2 * n + 1) * b in
      let r = terms (length l) (suc n) a b in
      let k = 4 ^ n * (factorial n * factorial n) in
      let f = factorial (2 * n + 1) in
      let g : k * o ≡ c * f = eqb→eq (k * o) (c * f) (and_l (eqb (k * o) (c * f)) (good_from o (suc n) l) t) in
      let i = terms_law l (suc n) (and_r (eqb (k * o) (c * f)) (good_from o (suc n) l) t) (omega arith) in
      let p : w ^ 64 ≡ w ^ (n + 1) * w ^ length l = ap (λ (z : ℕ). w ^ z) (omega arith) ∙ pow-add w (n + 1) (length l) in
      let i' : r.top * (o * w ^ 64) ≡ x * (a * a) * mix w (a * a) l * r.bottom =
      i ∙ ap (λ (z : ℕ). z * mix w (a * a) l * r.bottom) (odd_power n) in
      let u : k * x * r.bottom * (o * w ^ 64) ≡ x * (c * w ^ length l) * (f * w ^ (n + 1) * r.bottom) =
      ap (λ (z : ℕ). k * x * r.bottom * (o * z)) p ∙ first_part k o c f x r.bottom (w ^ (n + 1)) (w ^ length l) g in
      let v : r.top * (f * w ^ (n + 1)) * (o * w ^ 64) ≡ x * (a * a * mix w (a * a) l) * (f * w ^ (n + 1) * r.bottom) =
      second_part r.top (f * w ^ (n + 1)) (o * w ^ 64) (mix w (a * a) l) r.bottom x (a * a) i' in
      add-mul (k * x * r.bottom) (r.top * (f * w ^ (n + 1))) (o * w ^ 64)
      ∙ (ap (λ (z : ℕ). z + r.top * (f * w ^ (n + 1)) * (o * w ^ 64)) u
      ∙ (ap (λ (z : ℕ). x * (c * w ^ length l) * (f * w ^ (n + 1) * r.bottom) + z) v
      ∙ (sym (add-mul (x * (c * w ^ length l)) (x * (a * a * mix w (a * a) l)) (f * w ^ (n + 1) * r.bottom))
      ∙ ap (λ (z : ℕ). z * (f * w ^ (n + 1) * r.bottom)) (sym (mul-add x (c * w ^ length l) (a * a * mix w (a * a) l))))))

-- ---- the polynomials' values at a / d
unfoldable deg : ℕ → ℕ
deg zero = 0
deg (suc k) = suc (suc (deg k))

longer : (p q : List ℕ) → length p ≤ length (plus p q)
unfolding plus
longer [] q = omega arith
longer (a ∷ p) [] = omega arith
longer (a ∷ p) (b ∷ q) = omega (arith, longer p q)

power_some : (k : ℕ) → 1 ≤ length (power k)
unfolding power square times
power_some zero = omega arith
power_some (suc k) =
    omega (arith, power_some k, length-scale 1024 (power k), longer (scale 1024 (power k)) (0 ∷ times (0 ∷ 1 ∷ []) (power k)))

power-length : (k : ℕ) → length (power k) ≤ suc (deg k)
unfolding power square deg
power-length zero = omega arith
power-length (suc k) = omega (arith, power-length k, length-times 1024 (0 ∷ 1 ∷ []) (power k) (power_some k))

sums_power : (e : ℕ) (l : List ℕ) → (sums (e ∷ l)).pow ≡ power (length l)
unfolding sums grow power
sums_power e [] = refl
sums_power e (f ∷ l) = ap (λ (q : List ℕ). times square q) (sums_power f l)

two_more : (n : ℕ) → 2 + n ≡ suc (suc n)
two_more n = omega arith

module _ (a d : ℕ) where
  sq : ℕ
  sq = value 2 square a d

  power-value : (k : ℕ) → value (deg k) (power k) a d ≡ sq ^ k
  unfolding deg power value sq
  power-value zero = sym (pow-zero sq)
  power-value (suc k) =
      ap (λ (n : ℕ). value n (times square (power k)) a d) (sym (two_more (deg k)))
      ∙ (value-times 2 (deg k) square (power k) a d (square-length) (power-length k)
      ∙ (ap (λ (z : ℕ). sq * z) (power-value k) ∙ (mul_comm sq (sq ^ k) ∙ sym (pow-suc sq k))))
    where
      square-length : length square ≤ 3
      square-length = lit≤ tt

  sums_value : (e : ℕ) (l : List ℕ) → value (deg (length l)) (sums (e ∷ l)).poly a d ≡ mix sq (a * a) (e ∷ l)
  unfolding deg sums grow value mix power
  sums_value e [] = rw (pow-zero sq, mul-zero (a * a), mul-one e, add-zero e) refl
  sums_value e (f ∷ l) =
      let n = deg (length l) in
      let p = (sums (f ∷ l)).poly in
      let i = sums_value f l in
      let x : value (suc (suc n)) (0 ∷ 0 ∷ p) a d ≡ a * a * value n p a d =
      rw (zero-mul (d ^ suc (suc n)), zero-mul (d ^ suc n), zero-add (a * value n p a d), zero-add (a * (a * value n p a d))) (sym (mul_assoc a a (value n p a d))) in
      let y : value (suc (suc n)) (times square (sums (f ∷ l)).pow) a d ≡ sq ^ suc (length l) =
      ap (λ (q : List ℕ). value (suc (suc n)) (times square q) a d) (sums_power f l) ∙ power-value (suc (length l)) in
      value-plus (suc (suc n)) (scale e (times square (sums (f ∷ l)).pow)) (0 ∷ 0 ∷ p) a d
      ∙ (ap (λ (z : ℕ). z + value (suc (suc n)) (0 ∷ 0 ∷ p) a d)
      (value-scale (suc (suc n)) e (times square (sums (f ∷ l)).pow) a d ∙ ap (λ (z : ℕ). e * z) y)
      ∙ ap (λ (z : ℕ). e * sq ^ suc (length l) + z) (x ∙ ap (λ (z : ℕ). a * a * z) i))

unfoldable tail : List ℕ
unfolding euler_from odds
tail = euler_from 62 2 (odds 63 * (2 * 1) / (2 * 1 + 1))

euler_is : euler ≡ odds 63 ∷ tail
unfolding euler tail euler_from odds
euler_is = refl

tail_length : deg (length tail) ≡ 126
unfolding tail euler_from odds deg
tail_length = refl

euler_length : length euler ≡ 64
unfolding euler euler_from odds
euler_length = refl

sums_length : length (sums euler).poly ≤ 127
unfolding sums grow square times plus scale euler euler_from odds
sums_length = lit≤ tt

deg_64 : deg 64 ≡ 128
unfolding deg
deg_64 = refl

-- 32 a d times the sum over the terms, and (1024 d ^ 2 + a ^ 2) ^ 64
module _ (a d : ℕ) where
  sums_euler : value 126 (sums euler).poly a d ≡ mix (sq a d) (a * a) euler
  sums_euler =
      subst (λ (l : List ℕ). value 126 (sums l).poly a d ≡ mix (sq a d) (a * a) l) (sym euler_is)
      (subst (λ (n : ℕ). value n (sums (odds 63 ∷ tail)).poly a d ≡ mix (sq a d) (a * a) (odds 63 ∷ tail)) tail_length (sums_value a d (odds 63) tail))

  raised : (p : List ℕ) → value 128 (0 ∷ p) a d ≡ a * value 127 p a d
  unfolding value
  raised p = rw (zero-mul (d ^ 128)) (zero-add (a * value 127 p a d))

  top_value : value 128 top a d ≡ 32 * (a * (d * mix (sq a d) (a * a) euler))
  unfolding top
  top_value =
      value-scale 128 32 (0 ∷ (sums euler).poly) a d
      ∙ ap (λ (z : ℕ). 32 * z) (raised (sums euler).poly ∙ ap (λ (z : ℕ). a * z) (value_raise 126 (sums euler).poly a d sums_length ∙ ap (λ (z : ℕ). d * z) sums_euler))

  bottom_value : value 128 bottom a d ≡ odds 63 * sq a d ^ 64
  unfolding bottom
  bottom_value =
      value-scale 128 (odds 63) (power 64) a d
      ∙ ap (λ (z : ℕ). odds 63 * z) (subst (λ (n : ℕ). value n (power 64) a d ≡ sq a d ^ 64) deg_64 (power-value a d 64))

  sq_is : sq a d ≡ w (odds 63) a (32 * d)
  unfolding sq w value square
  sq_is =
      let e : d ^ 2 ≡ d * d = rw (pow-suc d 1, pow-suc d 0, pow-zero d, one-mul d) refl in
      let f : 32 * d * (32 * d) ≡ 1024 * (d * d) = simp (mul_assoc, mul_left_comm) (omega arith) in
      rw (e, zero-mul (d ^ 1), zero-add (a * 1), mul-one a) (omega arith)

  -- the sum of the first 64 terms at a / (32 d) is top / bottom
  pub euler_quotient : (terms 64 0 a (32 * d)).top * value 128 bottom a d ≡ value 128 top a d * (terms 64 0 a (32 * d)).bottom
  euler_quotient =
      let s = terms 64 0 a (32 * d) in
      let m = mix (sq a d) (a * a) euler in
      let g : T (good_from (odds 63) 0 euler) = subst (λ (t : Bool). T t) (sym euler_good) tt in
      let h : s.top * (odds 63 * w (odds 63) a (32 * d) ^ 64) ≡ a ^ (2 * 0 + 1) * (32 * d) * mix (w (odds 63) a (32 * d)) (a * a) euler * s.bottom =
      subst (λ (n : ℕ). (terms n 0 a (32 * d)).top * (odds 63 * w (odds 63) a (32 * d) ^ 64) ≡ a ^ (2 * 0 + 1) * (32 * d) * mix (w (odds 63) a (32 * d)) (a * a) euler * (terms n 0 a (32 * d)).bottom)
      euler_length (terms_law (odds 63) a (32 * d) euler 0 g (ap (λ (n : ℕ). 0 + n) euler_length)) in
      let k : s.top * (odds 63 * sq a d ^ 64) ≡ a ^ (2 * 0 + 1) * (32 * d) * m * s.bottom =
      subst (λ (z : ℕ). s.top * (odds 63 * z ^ 64) ≡ a ^ (2 * 0 + 1) * (32 * d) * mix z (a * a) euler * s.bottom) (sym sq_is) h in
      let i : a ^ (2 * 0 + 1) ≡ a = rw (pow-suc a 0, pow-zero a) (one-mul a) in
      let j : a * (32 * d) * m ≡ 32 * (a * (d * m)) = simp (mul_assoc, mul_left_comm) in
      ap (λ (z : ℕ). s.top * z) bottom_value
      ∙ (k ∙ (ap (λ (z : ℕ). z * (32 * d) * m * s.bottom) i ∙ (ap (λ (z : ℕ). z * s.bottom) (j ∙ sym top_value))))
