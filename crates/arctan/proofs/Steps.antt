-- The steps of the series in whole numbers: how near `rough` is to the product, and the sizes that keep every number below 2 ^ 64.
use Rattle.std.proofs.Common.{◌≡◌, ℕ, ◌+◌, ◌*◌, ◌/◌, ◌%◌, ◌≤◌, Bool, true, false, refl, ap, ◌∙◌, mul_assoc, add-mul, mul-le-mul, div-add-mod', mul-add, mul_left_comm, arith}
use Rattle.arctan.specs.declared.table.Row.{Row}
use Rattle.arctan.specs.Sizes.{Coefficient, Number, Rest, Fit}
use Rattle.fixed.specs.High.{high}
use Rattle.fixed.proofs.Products.{high_close}
use Rattle.arctan.specs.Rule.{rough, fine_step, rough_step, last_step, upper_steps, series_at, less_of, turned_of}

-- ---- x * y / 2 ^ 62 by the upper parts alone
corners : (a b p q k l : ℕ) → b ≤ k → q ≤ l → (a * k + b) * (p * l + q) ≤ (a * p + a + p + 1) * (k * l)
corners a b p q k l hb hq =
    let i : (a * k + b) * (p * l + q) ≤ (a * k + k) * (p * l + l) = mul-le-mul (omega arith) (omega arith) in
    let e₁ = mul-add (a * k + k) (p * l) l in
    let e₂ = add-mul (a * k) k (p * l) in
    let e₃ = add-mul (a * k) k l in
    let e₄ : a * k * (p * l) ≡ a * p * (k * l) = simp (mul_assoc, mul_left_comm) in
    let e₅ : a * k * l ≡ a * (k * l) = mul_assoc a k l in
    let e₆ : k * (p * l) ≡ p * (k * l) = mul_left_comm k p l in
    let e₇ = add-mul (a * p + a + p) 1 (k * l) in
    let e₈ = add-mul (a * p + a) p (k * l) in
    let e₉ = add-mul (a * p) a (k * l) in
    omega arith

pub rough_close : (x y : ℕ) → Number x → Rest y → (rough x y * 4611686018427387904 ≤ x * y) × (x * y ≤ (rough x y + 268435456) * 4611686018427387904)
unfolding rough
rough_close x y hx hy =
    let a = x / 2147483648 in
    let b = x % 2147483648 in
    let p = y / 67108864 in
    let q = y % 67108864 in
    let ex : a * 2147483648 + b ≡ x = div-add-mod' x 2147483648 in
    let ey : p * 67108864 + q ≡ y = div-add-mod' y 67108864 in
    let e : (a * 2147483648 + b) * (p * 67108864 + q) ≡ x * y = ap (λ (t : ℕ). t * (p * 67108864 + q)) ex ∙ ap (λ (t : ℕ). x * t) ey in
    let hb : b ≤ 2147483648 = omega arith in
    let hq : q ≤ 67108864 = omega arith in
    let up = corners a b p q 2147483648 67108864 hb hq in
    let lo : a * 2147483648 * (p * 67108864) ≤ x * y = mul-le-mul (omega arith) (omega arith) in
    let e₄ : a * 2147483648 * (p * 67108864) ≡ a * p * 144115188075855872 = simp (mul_assoc, mul_left_comm) (omega arith) in
    let ha : a ≤ 4294967296 = omega arith in
    let hp : p ≤ 2147483648 = omega arith in
    (omega arith, omega arith)

-- ---- the sizes
pub high_small : (x y : ℕ) → Number x → Rest y → high x y ≤ 252201579132747776
high_small x y hx hy =
    let i : x * y ≤ 8070450532247928832 * 144115188075855872 = mul-le-mul hx hy in
    omega (arith, (high_close x y).0)

pub rough_small : (x y : ℕ) → Number x → Rest y → rough x y ≤ 252201579132747776
rough_small x y hx hy =
    let i : x * y ≤ 8070450532247928832 * 144115188075855872 = mul-le-mul hx hy in
    omega (arith, (rough_close x y hx hy).0)

pub fine_number : (c q h : ℕ) → Coefficient c → Number q → Rest h → Number (fine_step c q h)
unfolding fine_step
fine_number c q h hc hq hh = omega (arith, hc.1, high_small q h hq hh)

pub rough-number : (c q h : ℕ) → Coefficient c → Number q → Rest h → Number (rough_step c q h)
unfolding rough_step
rough-number c q h hc hq hh = omega (arith, hc.1, rough_small q h hq hh)

last_small : (c q h : ℕ) → c ≤ 2305843009213693952 → Number q → Rest h → last_step c q h ≤ 2558044588346441728
unfolding last_step
last_small c q h hc hq hh = omega (arith, high_small q h hq hh)

-- ---- the series, step by step
pub series-is
    : (r : Row) (h : ℕ) {q8 q7 q6 q5 q4 q3 q2 q1 : ℕ}
    → q8 ≡ rough_step r.a8 r.a9 h
    → q7 ≡ rough_step r.a7 q8 h
    → q6 ≡ rough_step r.a6 q7 h
    → q5 ≡ rough_step r.a5 q6 h
    → q4 ≡ rough_step r.a4 q5 h
    → q3 ≡ fine_step r.a3 q4 h
    → q2 ≡ fine_step r.a2 q3 h
    → q1 ≡ fine_step r.a1 q2 h
    → last_step r.a0 q1 h ≡ series_at r h
unfolding series_at upper_steps
series-is r h e8 e7 e6 e5 e4 e3 e2 e1 = rw (e1, e2, e3, e4, e5, e6, e7, e8) refl

-- at most 1 + 7 / 64
pub series_small : (r : Row) (h : ℕ) → Fit r → Rest h → series_at r h ≤ 2558044588346441728
unfolding series_at upper_steps
series_small r h f i =
    let q9 = r.a9 in
    let n9 : Number q9 = omega (arith, f.f9.1) in
    let q8 = rough_step r.a8 q9 h in
    let n8 = rough-number r.a8 q9 h f.f8 n9 i in
    let q7 = rough_step r.a7 q8 h in
    let n7 = rough-number r.a7 q8 h f.f7 n8 i in
    let q6 = rough_step r.a6 q7 h in
    let n6 = rough-number r.a6 q7 h f.f6 n7 i in
    let q5 = rough_step r.a5 q6 h in
    let n5 = rough-number r.a5 q6 h f.f5 n6 i in
    let q4 = rough_step r.a4 q5 h in
    let n4 = rough-number r.a4 q5 h f.f4 n5 i in
    let q3 = fine_step r.a3 q4 h in
    let n3 = fine_number r.a3 q4 h f.f3 n4 i in
    let q2 = fine_step r.a2 q3 h in
    let n2 = fine_number r.a2 q3 h f.f2 n3 i in
    let q1 = fine_step r.a1 q2 h in
    let n1 = fine_number r.a1 q2 h f.f1 n2 i in
    last_small r.a0 q1 h f.f0 n1 i

-- ---- and its turns
pub turned_small : (t : Bool) (n : ℕ) → n ≤ 2558044588346441728 → turned_of t n ≤ 3622009729038561280
turned_small true n h = omega arith
turned_small false n h = omega arith

pub faced_small : (t : Bool) (n : ℕ) → n ≤ 3622009729038561280 → less_of t 7244019458077122560 n ≤ 7244019458077122560
faced_small true n h = omega arith
faced_small false n h = omega arith
