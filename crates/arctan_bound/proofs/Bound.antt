-- THE BOUND: the rule's answer is within 2 ^ -44 of the exact angle.
use mathlib.Core.Path.{◌≡◌, refl, sym, ◌∙◌, ap, subst}
use mathlib.Core.Bool.{Bool, true, false, not, cond, ◌&&◌, true≢false}
use Prim.Native.Nat.{ℕ, ◌+◌, ◌-◌, ◌*◌, ◌/◌, ◌≤◌, ◌<◌, ◌^◌}
use native.Mathlib.Nat.{mul-add, add-mul, mul_assoc, mul_comm, mul_left_comm, mul_right_comm, zero-mul, mul-zero, mul-pos, mul-le-mul_right, le_of_mul-le-mul_right, mul-div_cancel}
use native.Mathlib.Omega.{arith}
use lib.Count.{count_trailing_zeros}
use lib.Dec.{T, T_not, ltb→lt, lit≤}
use lib.Ieee.{Float, nan, inf, fin, binary64, up, down, fits, of_bits, of_fields, odd, neg, div, lt}
use lib.Ieee.Exact.{HasValue}
use lib.Ieee.Bits.{is_true}
use lib.Ieee.Fits.{down_pos, and_i, and_l, and_r}
use Rattle.laws.specs.Literal.{zero}
use Rattle.series.specs.Near.{Near}
use Rattle.series.proofs.Nears.{near-scale, near_wider, near_swap}
use Rattle.laws.specs.Units.{tick, one, Is}
use Rattle.laws.specs.Kind.{is_ordinary}
use Rattle.laws.proofs.Units.{one_is, tick_pos, is_plus, one_pos, neg_is}
use Rattle.laws.proofs.Logic.{not_true}
use Rattle.fixed.specs.Size.{size_of}
use Rattle.scalar.specs.Angles.{frac_pi2, pi}
use Rattle.arctan.specs.Rule.{tiny, steep_of, ratio, place_of, arc_of, less_of, turned_of, faced_of, float_of, angle_of, arctangent}
use Rattle.arctan.proofs.Steps.{turned_small, faced_small}
use Rattle.arctan.proofs.Fit.{units_small}
use Rattle.arctan.proofs.Tests.{tested, tested_is}
use Rattle.arctan.proofs.Cases.{by_quotient, by_angle}
use lib.Ieee.Digits.{back}
use Rattle.arctan.proofs.WholePart.{cell, part}
use Rattle.arctan.proofs.Slight.{not_below_zero, flat, signed_quotient, quick}
use Rattle.arctan.proofs.Ratio.{ratio-unit, ratio-fits}
use Rattle.arctan_table.specs.Euler.{terms}
use Rattle.arctan_bound.specs.Exact.{Angle, units_of, less, negated, choose, series_of, turned, faced, exact_angle, Within, Bounded}
use Rattle.arctan_bound.proofs.Converted.{grain, converted}
use Rattle.arctan_bound.proofs.Arc.{ArcNear, arc-near, slight-near, terms_pos}

-- ---- r is within k * 2 ^ -53 of the angle x
record Holds (r : Float) (x : Angle) (k : ℕ) : Type 0 where
  plus : ℕ
  minus : ℕ
  is : Is r plus minus
  some : 0 < x.bottom
  near : Near (k * tick * x.bottom) (plus * x.bottom) (minus * x.bottom) (one * x.plus) (one * x.minus)

-- n / 2 ^ 61 is within k * 2 ^ -53 of the angle x
record Counts (n : ℕ) (x : Angle) (k : ℕ) : Type 0 where
  some : 0 < x.bottom
  near : Near (k * tick * x.bottom) (n * grain * x.bottom) (0 * x.bottom) (one * x.plus) (one * x.minus)

-- c - x, where c is a number of units of 1 / o
abbrev less_by : ℕ → ℕ → Angle → Angle
less_by o c x = record { plus = c * x.bottom + o * x.minus; minus = o * x.plus; bottom = o * x.bottom }

less-near : (e o b pl mi c g n r : ℕ) → r + n ≡ c → Near (e * b) (n * g * b) (0 * b) (o * pl) (o * mi) →
    Near (e * (o * b)) (r * g * (o * b)) (0 * (o * b)) (o * (c * g * b + o * mi)) (o * (o * pl))
less-near e o b pl mi c g n r re v =
    let v' = near-scale o v in
    let sw : (a : ℕ) → a * b * o ≡ a * (o * b) = λ a. mul_assoc a b o ∙ ap (λ (z : ℕ). a * z) (mul_comm b o) in
    let y₁ = sw e in let y₂ = sw (n * g) in
    let y₃ : 0 * b * o ≡ 0 = ap (λ (z : ℕ). z * o) (zero-mul b) ∙ zero-mul o in
    let y₄ = zero-mul (o * b) in
    let z₁ : r * g * (o * b) + n * g * (o * b) ≡ c * g * (o * b) =
    sym (add-mul (r * g) (n * g) (o * b)) ∙ ap (λ (z : ℕ). z * (o * b)) (sym (add-mul r n g) ∙ ap (λ (z : ℕ). z * g) re) in
    let s₁ : o * (c * g * b + o * mi) ≡ c * g * (o * b) + o * mi * o =
    mul-add o (c * g * b) (o * mi) ∙
    (ap (λ (z : ℕ). z + o * (o * mi)) (mul_left_comm o (c * g) b) ∙ ap (λ (z : ℕ). c * g * (o * b) + z) (mul_comm o (o * mi))) in
    let s₂ : o * (o * pl) ≡ o * pl * o = mul_comm o (o * pl) in
    record { above = omega arith; below = omega arith }

less_counts : (c n k : ℕ) (x : Angle) → n ≤ c → Counts n x k → Counts (c - n) (less_by one (c * grain) x) k
less_counts c n k x h v =
    record { some = mul-pos one_pos v.some; near = less-near (k * tick) one x.bottom x.plus x.minus c grain n (c - n) (back c n h) v.near }

-- the answer's own rounding
float-near : (t k b pl mi o q p : ℕ) → Near (k * t * b) (q * b) (0 * b) (o * pl) (o * mi) → p ≤ q + 16 * t → q ≤ p + 16 * t → Near ((k + 16) * t * b) (p * b) (0 * b) (o * pl) (o * mi)
float-near t k b pl mi o q p v h i =
    let h' : p * b ≤ (q + 16 * t) * b = mul-le-mul_right b h in
    let i' : q * b ≤ (p + 16 * t) * b = mul-le-mul_right b i in
    let x₂ = add-mul q (16 * t) b in
    let x₃ = add-mul p (16 * t) b in
    let x₁ : (k + 16) * t * b ≡ k * t * b + 16 * t * b = ap (λ (z : ℕ). z * b) (add-mul k 16 t) ∙ add-mul (k * t) (16 * t) b in
    record { above = omega arith; below = omega arith }

float_holds : (n k : ℕ) (x : Angle) → n ≤ 8646911284551352320 → Counts n x k → Holds (float_of n) x (k + 16)
float_holds n k x h v =
    let c = converted n h in
    record {
      plus = c.units;
      minus = 0;
      is = is_plus (float_of n) c.units c.value;
      some = v.some;
      near = float-near tick k x.bottom x.plus x.minus one (n * grain) c.units v.near c.above c.below;
    }

abbrev wider : (r : Float) (x : Angle) (k l : ℕ) → k ≤ l → Holds r x k → Holds r x l
wider r x k l h v =
    record {
      plus = v.plus;
      minus = v.minus;
      is = v.is;
      some = v.some;
      near = near_wider (mul-le-mul_right x.bottom (mul-le-mul_right tick h)) v.near;
    }

neg_holds : (r : Float) (k : ℕ) (x : Angle) → Holds r x k → Holds (neg r) (negated x) k
neg_holds r k x v =
    record { plus = v.minus; minus = v.plus; is = neg_is r v.plus v.minus v.is; some = v.some; near = near_swap v.near }

-- ---- what that says of r's own digits
close : (t k b pl mi a e p m : ℕ) → 0 < t → k ≤ 512 → a * (9007199254740992 * t) + m * e ≡ p * e →
    Near (k * t * b) (p * b) (m * b) (9007199254740992 * t * pl) (9007199254740992 * t * mi) →
    (17592186044416 * (a * b + mi * e) ≤ 17592186044416 * (pl * e) + b * e) × (17592186044416 * (pl * e) ≤ 17592186044416 * (a * b + mi * e) + b * e)
close t k b pl mi a e p m t₀ h d v =
    let w = near-scale e v in
    let i : k * (t * (b * e)) ≤ 512 * (t * (b * e)) = mul-le-mul_right (t * (b * e)) h in
    let i₁ : k * t * b * e ≡ k * (t * (b * e)) = simp mul_assoc in
    let d' : (a * (9007199254740992 * t) + m * e) * b ≡ p * e * b = ap (λ (z : ℕ). z * b) d in
    let d₁ = add-mul (a * (9007199254740992 * t)) (m * e) b in
    let d₂ : a * (9007199254740992 * t) * b ≡ 9007199254740992 * (t * (a * b)) = simp (mul_assoc, mul_left_comm, mul_comm) in
    let d₃ = mul_right_comm p e b in
    let d₄ = mul_right_comm m e b in
    let x₁ : 9007199254740992 * t * pl * e ≡ 9007199254740992 * (t * (pl * e)) = simp mul_assoc in
    let x₂ : 9007199254740992 * t * mi * e ≡ 9007199254740992 * (t * (mi * e)) = simp mul_assoc in
    let y₁ = mul-add t (a * b) (mi * e) in
    let g₁ : t * (17592186044416 * (a * b + mi * e)) ≤ t * (17592186044416 * (pl * e) + b * e) =
    omega (arith, mul_left_comm t 17592186044416 (a * b + mi * e), mul-add t (17592186044416 * (pl * e)) (b * e), mul_left_comm t 17592186044416 (pl * e)) in
    let g₂ : t * (17592186044416 * (pl * e)) ≤ t * (17592186044416 * (a * b + mi * e) + b * e) =
    omega (arith, mul_left_comm t 17592186044416 (a * b + mi * e), mul-add t (17592186044416 * (a * b + mi * e)) (b * e), mul_left_comm t 17592186044416 (pl * e)) in
    (cancel g₁, cancel g₂)
  where
    cancel : {x y : ℕ} → t * x ≤ t * y → x ≤ y
    cancel {x} {y} g = le_of_mul-le-mul_right (subst (λ (z : ℕ). z ≤ y * t) (mul_comm t x) (subst (λ (z : ℕ). t * x ≤ z) (mul_comm t y) g)) t₀

within : (r : Float) (k : ℕ) (x : Angle) → k ≤ 512 → Holds r x k → Within r x
within nan k x h v = absurd v.is
within (inf s) k x h v = absurd v.is
within (fin false m e) k x h v = close tick k x.bottom x.plus x.minus (m * up e) (down e) v.plus v.minus tick_pos h v.is v.near
within (fin true m e) k x h v = close tick k x.bottom x.minus x.plus (m * up e) (down e) v.minus v.plus tick_pos h v.is (near_swap v.near)

-- ---- the turns
quarter_is : HasValue frac_pi2 false (3622009729038561280 * grain) one
unfolding of_bits of_fields odd count_trailing_zeros tick grain part
quarter_is = (refl, refl)

half_is : HasValue pi false (7244019458077122560 * grain) one
unfolding of_bits of_fields odd count_trailing_zeros tick grain part
half_is = (refl, refl)

pub units_is : (x : Float) (s : Bool) (g : ℕ) → HasValue x s g one → units_of x ≡ g
unfolding units_of
units_is nan s g v = absurd v
units_is (inf t) s g v = absurd v
units_is (fin t m e) s g v =
    ap (λ (z : ℕ). m * up e * z / down e) (sym one_is) ∙ (ap (λ (z : ℕ). z / down e) v.1 ∙ mul-div_cancel g (down_pos e))

-- ---- A
sum_at : ℕ → ℕ → Angle
sum_at a b = let s = terms 64 0 a b in record { plus = s.top; minus = 0; bottom = s.bottom }

start : (u : Float) → (v : ArcNear u) → Counts (arc_of u) (sum_at v.units (32 * cell)) 88
unfolding sum_at
start u v =
    record { some = terms_pos 64 0 v.units (32 * cell) (omega (arith, tick_pos)); near = rw (mul-zero one) v.near }

first : (y x : Float) → tested y x ≡ true → Counts (arc_of (ratio y x)) (series_of y x) 88
unfolding sum_at
first y x g =
    let u = ratio y x in
    let v = arc-near u (ratio-unit y x g) (ratio-fits y x) in
    let o : 32 * cell ≡ one = omega arith in
    subst (λ (a : ℕ). Counts (arc_of u) (sum_at a (2 ^ 1074)) 88) (sym (units_is u false v.units v.value))
    (subst (λ (b : ℕ). Counts (arc_of u) (sum_at v.units b) 88) (o ∙ one_is) (start u v))

arc_small : (u : Float) → arc_of u ≤ 2558044588346441728
unfolding arc_of
arc_small u = units_small (place_of u)

-- ---- turned where y is the larger, and faced where x is below 0
less_is : (C : Float) (c : ℕ) (x : Angle) → HasValue C false c one → less_by one c x ≡ less (units_of C) x
less_is C c x v =
    ap (λ (o : ℕ). less_by o c x) one_is ∙ ap (λ (z : ℕ). less z x) (sym (units_is C false c v))

turn : (t : Bool) (C : Float) (c n : ℕ) (x : Angle) → HasValue C false (c * grain) one → n ≤ c → Counts n x 88 → Counts (less_of t c n) (choose t (less (units_of C) x) x) 88
turn false C c n x e h v = v
turn true C c n x e h v = subst (λ (z : Angle). Counts (c - n) z 88) (less_is C (c * grain) x e) (less_counts c n 88 x h v)

-- ---- with the sign of y
sign : (t : Bool) (c : Float) (x : Angle) → Holds c x 104 → Holds (cond t (neg c) c) (choose t (negated x) x) 104
sign false c x v = v
sign true c x v = neg_holds c 104 x v

-- ---- where y / x itself is the answer: x is above 0, y not the larger in size, and u below 2 ^ -26
tiny-units : (u : Float) (g : ℕ) → HasValue u false g one → T (lt u tiny) → 67108864 * g ≤ one
unfolding lt of_bits of_fields odd count_trailing_zeros
tiny-units nan g v h = absurd v
tiny-units (inf s) g v h = absurd v
tiny-units (fin true m e) g v h = absurd (true≢false v.0)
tiny-units (fin false m e) g v h =
    let i : m * up e * 67108864 < 1 * 1 * down e = ltb→lt (m * up e * 67108864) (1 * 1 * down e) h in
    let j : m * up e * 67108864 ≤ down e = omega arith in
    let k : m * up e * 67108864 * one ≤ down e * one = mul-le-mul_right one j in
    let l : 67108864 * g * down e ≤ one * down e =
    omega (
      arith,
      mul_right_comm (m * up e) 67108864 one,
      ap (λ (z : ℕ). z * 67108864) v.1,
      mul_right_comm g (down e) 67108864,
      ap (λ (z : ℕ). z * down e) (mul_comm g 67108864),
      mul_comm (down e) one,
    ) in
    le_of_mul-le-mul_right l (down_pos e)

plain : (t s : Bool) (q h : ℕ) (x : Angle) → t ≡ false → s ≡ false → choose s (less h (choose t (less q x) x)) (choose t (less q x) x) ≡ x
plain true s q h x e f = absurd (true≢false e)
plain false true q h x e f = absurd (true≢false f)
plain false false q h x e f = refl

own : (u : Float) → (v : ArcNear u) → 67108864 * v.units ≤ one → Holds u (sum_at v.units (32 * cell)) 104
unfolding sum_at
own u v h =
    let s = terms 64 0 v.units (32 * cell) in
    wider u (sum_at v.units (32 * cell)) 88 104 (omega arith)
    (record {
      plus = v.units;
      minus = 0;
      is = is_plus u v.units v.value;
      some = terms_pos 64 0 v.units (32 * cell) (omega (arith, tick_pos));
      near = rw (mul-zero one) (slight-near v.units h);
    })

own_series : (y x : Float) → tested y x ≡ true → T (lt (ratio y x) tiny) → Holds (ratio y x) (series_of y x) 104
unfolding sum_at
own_series y x g h =
    let u = ratio y x in
    let v = arc-near u (ratio-unit y x g) (ratio-fits y x) in
    let o : 32 * cell ≡ one = omega arith in
    subst (λ (a : ℕ). Holds u (sum_at a (2 ^ 1074)) 104) (sym (units_is u false v.units v.value))
    (subst (λ (b : ℕ). Holds u (sum_at v.units b) 104) (o ∙ one_is) (own u v (tiny-units u v.units v.value h)))

slight_holds : (y x : Float) → tested y x ≡ true → T (quick y x) → Holds (div binary64 y x) (exact_angle y x) 104
unfolding ratio size_of
slight_holds y x g h =
    let steep = steep_of y x in
    let i = and_r (not steep) (lt zero x && lt (ratio y x) tiny) h in
    let e : steep ≡ false = not_true steep (T_not steep (and_l (not steep) (lt zero x && lt (ratio y x) tiny) h)) in
    let f : lt x zero ≡ false = not_below_zero x (and_l (lt zero x) (lt (ratio y x) tiny) i) in
    let u : ratio y x ≡ div binary64 (size_of y) x = flat steep (lt x zero) x (size_of y) e f in
    let w : Holds (div binary64 (size_of y) x) (series_of y x) 104 =
    subst (λ (r : Float). Holds r (series_of y x) 104) u (own_series y x g (and_r (lt zero x) (lt (ratio y x) tiny) i)) in
    let p = plain steep (lt x zero) (units_of frac_pi2) (units_of pi) (series_of y x) e f in
    subst (λ (r : Float). Holds r (exact_angle y x) 104) (signed_quotient (lt y zero) y x)
    (sign (lt y zero) (div binary64 (size_of y) x) (faced y x) (subst (λ (a : Angle). Holds (div binary64 (size_of y) x) a 104) (sym p) w))

-- ---- where the series is
angle_holds : (y x : Float) → tested y x ≡ true → Holds (angle_of y x (steep_of y x) (ratio y x)) (exact_angle y x) 104
unfolding angle_of
angle_holds y x g =
    let n = arc_of (ratio y x) in
    let m = turned_of (steep_of y x) n in
    let n≤ = arc_small (ratio y x) in
    let m≤ = turned_small (steep_of y x) n n≤ in
    let b = turn (steep_of y x) frac_pi2 3622009729038561280 n (series_of y x) quarter_is (at_most n 2558044588346441728 3622009729038561280 n≤ (lit≤ tt)) (first y x g) in
    let c = turn (lt x zero) pi 7244019458077122560 m (turned y x) half_is (at_most m 3622009729038561280 7244019458077122560 m≤ (lit≤ tt)) b in
    let d = float_holds (faced_of x m) 88 (faced y x) (at_most (faced_of x m) 7244019458077122560 8646911284551352320 (faced_small (lt x zero) m m≤) (lit≤ tt)) c in
    sign (lt y zero) (float_of (faced_of x m)) (faced y x) d
  where
    at_most : (a b c : ℕ) → a ≤ b → b ≤ c → a ≤ c
    at_most a b c h i = omega arith

general_within : (y x : Float) → T (fits binary64 y) → T (fits binary64 x) → tested y x ≡ true → Within (arctangent y x) (exact_angle y x)
general_within y x f h g = go (quick y x) refl
  where
    go : (b : Bool) → quick y x ≡ b → Within (arctangent y x) (exact_angle y x)
    go true e =
        subst (λ (r : Float). Within r (exact_angle y x)) (sym (by_quotient y x f h g e))
        (within (div binary64 y x) 104 (exact_angle y x) (omega arith) (slight_holds y x g (subst (λ (t : Bool). T t) (sym e) tt)))
    go false e =
        subst (λ (r : Float). Within r (exact_angle y x)) (sym (by_angle y x f h g e))
        (within (angle_of y x (steep_of y x) (ratio y x)) 104 (exact_angle y x) (omega arith) (angle_holds y x g))

-- THE BOUND: of any two numbers that are finite and not 0 the arctangent is within 2 ^ -44 of the exact angle
pub arctan_near : Bounded arctangent
arctan_near y x h k =
    general_within y x h.0 k.0
    (tested_is y x h.0 k.0 ∙ is_true (is_ordinary y && is_ordinary x) (and_i (is_ordinary y) (is_ordinary x) h.1 k.1))
