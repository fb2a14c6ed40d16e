-- A cell's law: the quotient of two polynomials, top and bottom, against a short one, kp - km, from the point j to j + 1, by what is computed of their coefficients.
use mathlib.Core.Path.{◌≡◌, refl, sym, ◌∙◌}
use mathlib.Core.List.{List}
use Prim.Native.Nat.{ℕ, suc, ◌+◌, ◌*◌, ◌-◌, ◌≤◌, ◌^◌}
use native.Mathlib.Nat.{mul-add, add-mul, mul_assoc, mul_left_comm, mul-le-mul_left, mul-le-mul_right, mul-mul-mul_comm, le_trans}
use native.Mathlib.Omega.{arith}
use lib.ListN.{length}
use lib.Pow.{pow-add}
use Rattle.series.specs.Poly.{eval, plus, scale, times, total, value}
use Rattle.series.specs.Shift.{head_shift}
use Rattle.series.specs.Near.{gap, Near}
use Rattle.series.proofs.Values.{value-plus, value-scale, value_lift, value-times, value_bound}
use Rattle.series.proofs.Nears.{value-gap_left, value-gap_right}
use Rattle.series.proofs.Heads.{head_below, head_above}
use Rattle.series.proofs.Lengths.{length-head_shift}

-- n and b are the first coefficients of top and bottom at j, N and B the values of top and bottom at j + 1
unfoldable pub off_by : List ℕ → List ℕ → ℕ → ℕ → ℕ → List ℕ → List ℕ → ℕ
off_by n b N B u kp km =
    total (gap (plus (scale u n) (times km b)) (times kp b)) + u * (N - total n) + (total kp + total km) * (B - total b)

-- u e N is within u t (e f) of u e n, for N from n to n + t f
lift : (u e f n t x : ℕ) → x ≤ n + t * f → u * (e * x) ≤ u * (e * n) + u * t * (e * f)
lift u e f n t x h =
    let i : u * (e * x) ≤ u * (e * (n + t * f)) = mul-le-mul_left u (mul-le-mul_left e h) in
    let m : u * (e * (n + t * f)) ≡ u * (e * n) + u * (e * (t * f)) = rw (mul-add e n (t * f)) (mul-add u (e * n) (e * (t * f))) in
    let o : u * (e * (t * f)) ≡ u * t * (e * f) = rw (mul_left_comm e t f) (sym (mul_assoc u t (e * f))) in
    omega arith

-- K D is within s t (e f) of K b, for K up to s e and D up to b + t f
widen : (k s e f b t x : ℕ) → k ≤ s * e → x ≤ b + t * f → k * x ≤ k * b + s * t * (e * f)
widen k s e f b t x h i =
    let j : k * x ≤ k * (b + t * f) = mul-le-mul_left k i in
    let m = mul-add k b (t * f) in
    let o : k * (t * f) ≤ s * e * (t * f) = mul-le-mul_right (t * f) h in
    let q : s * e * (t * f) ≡ s * t * (e * f) = mul-mul-mul_comm s e t f in
    omega arith

add_bound : (x : ℕ) {y z : ℕ} → y ≤ z → x + y ≤ x + z
add_bound x h = omega arith

-- The units e = d ^ k, f = d ^ n and their product, and the six values, as names
combine : (u e f : ℕ) (N D n̂ b̂ p m : ℕ) (tn tb sp sm s : ℕ) →
    n̂ ≤ N → N ≤ n̂ + tn * f → b̂ ≤ D → D ≤ b̂ + tb * f → p ≤ sp * e → m ≤ sm * e →
    u * (e * n̂) + m * b̂ ≤ p * b̂ + s * (e * f) → p * b̂ ≤ u * (e * n̂) + m * b̂ + s * (e * f) →
    Near ((s + u * tn + (sp + sm) * tb) * (e * f)) (u * (e * N)) 0 (p * D) (m * D)
combine u e f N D n̂ b̂ p m tn tb sp sm s h₁ h₂ h₃ h₄ h₅ h₆ h₇ h₈ =
    let i₁ = lift u e f n̂ tn N h₂ in
    let i₂ = widen m sm e f b̂ tb D h₆ h₄ in
    let i₃ = widen p sp e f b̂ tb D h₅ h₄ in
    let i₄ : p * b̂ ≤ p * D = mul-le-mul_left p h₃ in
    let i₅ : m * b̂ ≤ m * D = mul-le-mul_left m h₃ in
    let i₆ : u * (e * n̂) ≤ u * (e * N) = mul-le-mul_left u (mul-le-mul_left e h₁) in
    let x₁ = add-mul (s + u * tn) ((sp + sm) * tb) (e * f) in
    let x₂ = add-mul s (u * tn) (e * f) in
    let x₃ : (sp + sm) * tb * (e * f) ≡ sp * tb * (e * f) + sm * tb * (e * f) = rw (add-mul sp sm tb) (add-mul (sp * tb) (sm * tb) (e * f)) in
    record { above = omega arith; below = omega arith }

module _ (k n t j a d u : ℕ) (top bottom kp km : List ℕ) (h : a ≤ d)
    (lt : length top ≤ suc n) (lb : length bottom ≤ suc n) (lp : length kp ≤ suc k) (lm : length km ≤ suc k) where
  left_is : value (k + n) (plus (scale u (head_shift t j top)) (times km (head_shift t j bottom))) a d
      ≡ u * (d ^ k * value n (head_shift t j top) a d) + value k km a d * value n (head_shift t j bottom) a d
  left_is =
      value-plus (k + n) (scale u (head_shift t j top)) (times km (head_shift t j bottom)) a d
      ∙ rw (
        value-scale (k + n) u (head_shift t j top) a d,
        value_lift k n (head_shift t j top) a d (omega (arith, length-head_shift t j top)),
        value-times k n km (head_shift t j bottom) a d lm (omega (arith, length-head_shift t j bottom)),
      ) refl

  right_is : value (k + n) (times kp (head_shift t j bottom)) a d ≡ value k kp a d * value n (head_shift t j bottom) a d
  right_is = value-times k n kp (head_shift t j bottom) a d lp (omega (arith, length-head_shift t j bottom))

  -- u d ^ k top - (kp - km) bottom is within offBy d ^ (k + n)
  pub cell_law :
      Near (off_by (head_shift t j top) (head_shift t j bottom) (eval top (j + 1)) (eval bottom (j + 1)) u kp km * (d ^ k * d ^ n))
      (u * (d ^ k * value n top (j * d + a) d)) 0
      (value k kp a d * value n bottom (j * d + a) d) (value k km a d * value n bottom (j * d + a) d)
  unfolding off_by
  cell_law =
      let x = head_shift t j top in
      let y = head_shift t j bottom in
      let g = gap (plus (scale u x) (times km y)) (times kp y) in
      let w : d ^ (k + n) ≡ d ^ k * d ^ n = pow-add d k n in
      let bound : value (k + n) g a d ≤ total g * (d ^ k * d ^ n) = rw w at (value_bound (k + n) g a d h) in
      let l = value-gap_left (k + n) (plus (scale u x) (times km y)) (times kp y) a d in
      let r = value-gap_right (k + n) (plus (scale u x) (times km y)) (times kp y) a d in
      combine u (d ^ k) (d ^ n) (value n top (j * d + a) d) (value n bottom (j * d + a) d) (value n x a d) (value n y a d) (value k kp a d) (value k km a d)
      (eval top (j + 1) - total x) (eval bottom (j + 1) - total y) (total kp) (total km) (total g)
      (head_below n t j top a d lt) (head_above n t j top a d lt h) (head_below n t j bottom a d lb) (head_above n t j bottom a d lb h)
      (value_bound k kp a d h) (value_bound k km a d h)
      (rw (left_is, right_is) at (le_trans l (add_bound (value (k + n) (times kp y) a d) bound)))
      (rw (left_is, right_is) at (le_trans r (add_bound (value (k + n) (plus (scale u x) (times km y)) a d) bound)))
