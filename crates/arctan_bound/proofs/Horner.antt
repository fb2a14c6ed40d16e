-- Horner's scheme in whole numbers against the exact polynomial: at 2 ^ 61, with products that are cut, it is within 292.
use mathlib.Core.Path.{◌≡◌, sym, ◌∙◌, ap}
use Prim.Native.Nat.{ℕ, suc, ◌+◌, ◌-◌, ◌*◌, ◌≤◌, ◌^◌}
use native.Mathlib.Nat.{mul-add, add-mul, mul_assoc, mul_comm, mul_left_comm, mul_right_comm, mul-one, mul-le-mul_left, mul-le-mul_right, pow-zero, pow-suc}
use native.Mathlib.Omega.{arith}
use lib.Dec.{T}
use Rattle.series.specs.Poly.{value}
use Rattle.series.specs.Near.{Near}
use Rattle.series.proofs.Nears.{near-scale}
use Rattle.laws.specs.Units.{one}
use Rattle.arctan_table.specs.Table.{Coef, more, less, Coefs}
use Rattle.arctan.specs.Rows.{plain, raised, row_from}
use Rattle.arctan.specs.Sizes.{Coefficient, Number, Rest, Fit}
use Rattle.fixed.specs.High.{high}
use Rattle.arctan.specs.Rule.{rough, fine_step, rough_step, last_step, upper_steps, series_at}
use Rattle.fixed.proofs.Products.{high_close}
use Rattle.arctan.proofs.Steps.{rough_close, fine_number, rough-number}
use Rattle.arctan.proofs.Fit.{not_below}
use Rattle.arctan.proofs.WholePart.{part, one-part}
use Rattle.arctan_table.proofs.Rows.{added, taken, each, coef_list}

-- ---- the product of a number q and the rest z, which h stands for to within one part
module _ (d o h z q P w : ℕ) (oe : o ≡ d * 4611686018427387904) (lo : h * d ≤ z) (hi : z ≤ h * d + d) (hq : q ≤ 9223372036854775808)
    (pl : P * 4611686018427387904 ≤ q * h) (ph : q * h ≤ (P + w) * 4611686018427387904) where
  into : (a : ℕ) → a * 4611686018427387904 * d ≡ a * o
  into a = mul_assoc a 4611686018427387904 d ∙ ap (λ (x : ℕ). a * x) (mul_comm 4611686018427387904 d ∙ sym oe)

  product_low : P * o ≤ z * q
  product_low =
      let a : P * 4611686018427387904 * d ≤ q * h * d = mul-le-mul_right d pl in
      let b : q * (h * d) ≤ q * z = mul-le-mul_left q lo in
      omega (arith, into P, mul_assoc q h d, mul_comm q z)

  product_high : z * q ≤ P * o + (w + 2) * o
  product_high =
      let a : q * h * d ≤ (P + w) * 4611686018427387904 * d = mul-le-mul_right d ph in
      let b : q * z ≤ q * (h * d + d) = mul-le-mul_left q hi in
      let c : q * d ≤ 9223372036854775808 * d = mul-le-mul_right d hq in
      omega (arith, into (P + w), mul_assoc q h d, mul_comm q z, mul-add q (h * d) d, add-mul P w o, add-mul w 2 o)

  twice_low : h * o ≤ z * 4611686018427387904
  twice_low =
      let a : h * d * 4611686018427387904 ≤ z * 4611686018427387904 = mul-le-mul_right 4611686018427387904 lo in
      omega (arith, into h, mul_right_comm h d 4611686018427387904)

  twice_high : z * 4611686018427387904 ≤ h * o + o
  twice_high =
      let a : z * 4611686018427387904 ≤ (h * d + d) * 4611686018427387904 = mul-le-mul_right 4611686018427387904 hi in
      omega (arith, into h, mul_right_comm h d 4611686018427387904, add-mul (h * d) d 4611686018427387904)

-- ---- one step. q is b more than A - B, to within e; t is b z; c is b' more than the coefficient x - y; and all over W, a power of o
chain : (e f w W o z A B x y q b t c b' P r : ℕ) → 32 * z ≤ o → P * o ≤ z * q → z * q ≤ P * o + w * o → t * o ≤ z * b → z * b ≤ t * o + o →
    c + 256 * y ≡ b' + 256 * x → r + t ≡ c + P → 1 ≤ w → e + 32 * w ≤ 32 * f →
    Near (e * W) (q * W) (b * W) (256 * A) (256 * B) →
    Near (f * (W * o)) (r * (W * o)) (b' * (W * o)) (256 * (x * (W * o) + z * A)) (256 * (y * (W * o) + z * B))
chain e f w W o z A B x y q b t c b' P r small p₁ p₂ t₁ t₂ ce re w₁ room v =
    let X = W * o in
    let sw : (a : ℕ) → a * o * W ≡ a * X = λ a. mul_assoc a o W ∙ ap (λ (k : ℕ). a * k) (mul_comm o W) in
    let v' = near-scale z v in
    let a₁ : P * o * W ≤ z * q * W = mul-le-mul_right W p₁ in
    let a₂ : z * q * W ≤ (P * o + w * o) * W = mul-le-mul_right W p₂ in
    let a₃ : t * o * W ≤ z * b * W = mul-le-mul_right W t₁ in
    let a₄ : z * b * W ≤ (t * o + o) * W = mul-le-mul_right W t₂ in
    let d₂ = add-mul (P * o) (w * o) W in
    let d₄ = add-mul (t * o) o W in
    let s₁ = sw P in let s₂ = sw w in let s₃ = sw t in let s₄ = mul_comm o W in
    let m₁ : q * W * z ≡ z * q * W = mul_comm (q * W) z ∙ sym (mul_assoc z q W) in
    let m₂ : b * W * z ≡ z * b * W = mul_comm (b * W) z ∙ sym (mul_assoc z b W) in
    let i : e * W * (32 * z) ≤ e * W * o = mul-le-mul_left (e * W) small in
    let i₁ : e * W * (32 * z) ≡ 32 * (e * W * z) = mul_left_comm (e * W) 32 z in
    let i₂ : e * W * o ≡ e * X = mul_assoc e W o in
    let g : (e + 32 * w) * X ≤ 32 * f * X = mul-le-mul_right X room in
    let g₁ = add-mul e (32 * w) X in
    let g₂ = mul_assoc 32 w X in
    let g₃ = mul_assoc 32 f X in
    let g₄ : 1 * X ≤ w * X = mul-le-mul_right X w₁ in
    let n₁ : (c + 256 * y) * X ≡ (b' + 256 * x) * X = ap (λ (k : ℕ). k * X) ce in
    let n₂ : (r + t) * X ≡ (c + P) * X = ap (λ (k : ℕ). k * X) re in
    let n₃ = add-mul c (256 * y) X in let n₄ = add-mul b' (256 * x) X in
    let n₅ = add-mul r t X in let n₆ = add-mul c P X in
    let n₇ = mul_assoc 256 y X in let n₈ = mul_assoc 256 x X in
    let k₁ : 256 * (x * X + z * A) ≡ 256 * (x * X) + 256 * A * z =
    mul-add 256 (x * X) (z * A) ∙ ap (λ (k : ℕ). 256 * (x * X) + k) (ap (λ (k : ℕ). 256 * k) (mul_comm z A) ∙ sym (mul_assoc 256 A z)) in
    let k₂ : 256 * (y * X + z * B) ≡ 256 * (y * X) + 256 * B * z =
    mul-add 256 (y * X) (z * B) ∙ ap (λ (k : ℕ). 256 * (y * X) + k) (ap (λ (k : ℕ). 256 * k) (mul_comm z B) ∙ sym (mul_assoc 256 B z)) in
    record { above = omega arith; below = omega arith }

-- ---- q, at 2 ^ 61, is b more than the polynomial A - B, a value over one ^ n at 2 ^ 53, to within e; and it is of a size that the next step takes
pub record Stands (e b q n A B : ℕ) : Type 0 where
  pub number : Number q
  pub near : Near (e * one ^ n) (q * one ^ n) (b * one ^ n) (256 * A) (256 * B)

-- 2 at 2 ^ 61, which is added to a number so that it has no sign
abbrev two : ℕ
two = 4611686018427387904

-- ---- the coefficients: a size that a step takes says that nothing was cut off below 0
raised_is : (c : Coef) → Coefficient (raised c) → raised c + 256 * taken c ≡ two + 256 * added c
unfolding added taken raised
raised_is (more n) h = omega arith
raised_is (less n) h = omega (arith, h.0)

plain_is : (c : Coef) → T (not_below c) → plain c + 256 * taken c ≡ 0 + 256 * added c
unfolding not_below added taken plain
plain_is (more n) t = omega arith
plain_is (less n) t = absurd t

above_is : (c : Coef) → Coefficient (plain c) → T (not_below c)
unfolding not_below plain
above_is (more n) h = tt
above_is (less n) h = let z : ⊥ = omega (arith, h.0) in absurd z

start : (c : Coef) → Coefficient (raised c) → Stands 300000000 two (raised c) 0 (added c) (taken c)
start c fit =
    let e = raised_is c fit in
    record {
      number = omega (arith, fit.1);
      near = rw (pow-zero one, mul-one (raised c), mul-one two, mul-one 300000000) (record { above = omega arith; below = omega arith });
    }

module _ (h z : ℕ) (lo : h * part ≤ z) (hi : z ≤ h * part + part) (small : 32 * z ≤ one) (hh : Rest h) where
  -- a step with the coefficient c, which is b' more than x - y; f is what the error e comes to
  rough_step_lem : {q n A B : ℕ} (c b' x y : ℕ) → Coefficient c → c + 256 * y ≡ b' + 256 * x → Stands 300000000 two q n A B →
      Stands 300000000 b' (rough_step c q h) (suc n) (x * one ^ suc n + z * A) (y * one ^ suc n + z * B)
  unfolding rough_step
  rough_step_lem {q} {n} {A} {B} c b' x y hc ce v =
      let P = rough q h in
      let k = rough_close q h v.number hh in
      let m : q ≤ 9223372036854775808 = omega (arith, v.number) in
      record {
        number = rough-number c q h hc v.number hh;
        near =
            rw (pow-suc one n)
            (chain 300000000 300000000 (268435456 + 2) (one ^ n) one z A B x y q two h c b' P (c + P - h) small
            (product_low part one h z q P 268435456 one-part lo hi m k.0 k.1) (product_high part one h z q P 268435456 one-part lo hi m k.0 k.1)
            (twice_low part one h z q P 268435456 one-part lo hi m k.0 k.1) (twice_high part one h z q P 268435456 one-part lo hi m k.0 k.1)
            ce (omega (arith, hc.0)) (omega arith) (omega arith) v.near);
      }

  fine_step_lem : {e q n A B : ℕ} (f c b' x y : ℕ) → e + 160 ≤ 32 * f → Coefficient c → c + 256 * y ≡ b' + 256 * x → Stands e two q n A B →
      Stands f b' (fine_step c q h) (suc n) (x * one ^ suc n + z * A) (y * one ^ suc n + z * B)
  unfolding fine_step
  fine_step_lem {e} {q} {n} {A} {B} f c b' x y room hc ce v =
      let P = high q h in
      let k = high_close q h in
      let m : q ≤ 9223372036854775808 = omega (arith, v.number) in
      record {
        number = fine_number c q h hc v.number hh;
        near =
            rw (pow-suc one n)
            (chain e f (3 + 2) (one ^ n) one z A B x y q two h c b' P (c + P - h) small
            (product_low part one h z q P 3 one-part lo hi m k.0 k.1) (product_high part one h z q P 3 one-part lo hi m k.0 k.1)
            (twice_low part one h z q P 3 one-part lo hi m k.0 k.1) (twice_high part one h z q P 3 one-part lo hi m k.0 k.1)
            ce (omega (arith, hc.0)) (omega arith) (omega arith) v.near);
      }

  last_step_lem : {e q n A B : ℕ} (f c x y : ℕ) → e + 160 ≤ 32 * f → c + 256 * y ≡ 0 + 256 * x → Stands e 0 q n A B →
      Near (f * one ^ suc n) (last_step c q h * one ^ suc n) (0 * one ^ suc n) (256 * (x * one ^ suc n + z * A)) (256 * (y * one ^ suc n + z * B))
  unfolding last_step
  last_step_lem {e} {q} {n} {A} {B} f c x y room ce v =
      let P = high q h in
      let k = high_close q h in
      let m : q ≤ 9223372036854775808 = omega (arith, v.number) in
      rw (pow-suc one n)
      (chain e f (3 + 2) (one ^ n) one z A B x y q 0 0 c 0 P (c + P) small
      (product_low part one h z q P 3 one-part lo hi m k.0 k.1) (product_high part one h z q P 3 one-part lo hi m k.0 k.1)
      (omega arith) (omega arith)
      ce (omega arith) (omega arith) (omega arith) v.near)

  -- the same with a coefficient of the table
  rough-at : {q n A B : ℕ} (c : Coef) → Coefficient (raised c) → Stands 300000000 two q n A B →
      Stands 300000000 two (rough_step (raised c) q h) (suc n) (added c * one ^ suc n + z * A) (taken c * one ^ suc n + z * B)
  rough-at c fit v = rough_step_lem (raised c) two (added c) (taken c) fit (raised_is c fit) v

  fine_at : {e q n A B : ℕ} (f : ℕ) (c : Coef) → e + 160 ≤ 32 * f → Coefficient (raised c) → Stands e two q n A B →
      Stands f two (fine_step (raised c) q h) (suc n) (added c * one ^ suc n + z * A) (taken c * one ^ suc n + z * B)
  fine_at f c room fit v = fine_step_lem f (raised c) two (added c) (taken c) room fit (raised_is c fit) v

  -- ---- the whole row
  pub series_near : (k : Coefs) → Fit (row_from k) → T (not_below k.k0) →
      Near (292 * one ^ 9) (series_at (row_from k) h * one ^ 9) (0 * one ^ 9) (256 * value 9 (each added (coef_list k)) z one) (256 * value 9 (each taken (coef_list k)) z one)
  unfolding series_at upper_steps row_from coef_list each value
  series_near k fit above =
      let v9 = start k.k9 fit.f9 in
      let v8 = rough-at k.k8 fit.f8 v9 in
      let v7 = rough-at k.k7 fit.f7 v8 in
      let v6 = rough-at k.k6 fit.f6 v7 in
      let v5 = rough-at k.k5 fit.f5 v6 in
      let v4 = rough-at k.k4 fit.f4 v5 in
      let v3 = fine_at 9375005 k.k3 (omega arith) fit.f3 v4 in
      let v2 = fine_at 292974 k.k2 (omega arith) fit.f2 v3 in
      let v1 = fine_step_lem 9161 (plain k.k1) 0 (added k.k1) (taken k.k1) (omega arith) fit.f1 (plain_is k.k1 (above_is k.k1 fit.f1)) v2 in
      last_step_lem 292 (plain k.k0) (added k.k0) (taken k.k0) (omega arith) (plain_is k.k0 above) v1
