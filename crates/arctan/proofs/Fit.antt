-- Each row of the table is of a size that the steps of the series take.
use Rattle.std.proofs.Common.{◌≡◌, ℕ, zero, suc, ◌/◌, ◌%◌, ◌≤◌, min, Bool, true, false, ◌&&◌, T, leb, List, [], ◌∷◌, get_or, sym, refl, subst, arith, leb→le}
use lib.Ieee.Fits.{and_l, and_r}
use Rattle.arctan.specs.declared.table.Row.{Row}
use Rattle.arctan_table.specs.Table.{Coef, more, less, Coefs, table, coefs_at}
use Rattle.arctan.specs.Rows.{plain, raised, row_from, row_at}
use Rattle.arctan.specs.Sizes.{Coefficient, Rest, Fit}
use Rattle.arctan.specs.Rule.{units_at}
use Rattle.arctan.proofs.Steps.{series_small}

unfoldable pub middling : ℕ → Bool
middling c = leb 1152921504606846976 c && leb c 6917529027641081856

middling_is : (c : ℕ) → T (middling c) → Coefficient c
unfolding middling
middling_is c t =
    (leb→le 1152921504606846976 c (and_l (leb 1152921504606846976 c) (leb c 6917529027641081856) t), leb→le c 6917529027641081856 (and_r (leb 1152921504606846976 c) (leb c 6917529027641081856) t))

-- not below 0
unfoldable pub not_below : Coef → Bool
not_below (more n) = true
not_below (less n) = false

unfoldable pub lower : Row → Bool
unfolding middling
lower r = leb r.a0 2305843009213693952 && (middling r.a1 && (middling r.a2 && (middling r.a3 && middling r.a4)))

unfoldable pub upper : Row → Bool
unfolding middling
upper r = middling r.a5 && (middling r.a6 && (middling r.a7 && (middling r.a8 && middling r.a9)))

unfoldable pub fitting : Coefs → Bool
unfolding lower upper not_below row_from
fitting k = not_below k.k0 && (lower (row_from k) && upper (row_from k))

unfoldable pub all_fitting : List Coefs → Bool
unfolding fitting
all_fitting [] = true
all_fitting (k ∷ l) = fitting k && all_fitting l

all_fitting_lem : all_fitting table ≡ true
unfolding all_fitting fitting lower upper middling not_below row_from plain raised table
all_fitting_lem = refl

fitting_at : (l : List Coefs) (k : Coefs) → T (all_fitting l) → T (fitting k) → (j : ℕ) → T (fitting (get_or l j k))
unfolding all_fitting
fitting_at [] k h i j = i
fitting_at (r ∷ l) k h i zero = and_l (fitting r) (all_fitting l) h
fitting_at (r ∷ l) k h i (suc j) = fitting_at l k (and_r (fitting r) (all_fitting l) h) i j

pub coefs_fitting : (j : ℕ) → T (fitting (coefs_at j))
unfolding coefs_at fitting lower upper middling not_below row_from plain raised
coefs_fitting j = fitting_at table _ (subst (λ (x : Bool). T x) (sym all_fitting_lem) tt) tt j

pub first_above : (k : Coefs) → T (fitting k) → T (not_below k.k0)
unfolding fitting
first_above k t = and_l (not_below k.k0) (lower (row_from k) && upper (row_from k)) t

sizes_of : (k : Coefs) → T (fitting k) → T (lower (row_from k) && upper (row_from k))
unfolding fitting
sizes_of k t = and_r (not_below k.k0) (lower (row_from k) && upper (row_from k)) t

-- five tests at a time
record Five (a b c d e : Bool) : Type 0 where
  fst : T a
  snd : T b
  trd : T c
  fth : T d
  fif : T e

five : (a b c d e : Bool) → T (a && (b && (c && (d && e)))) → Five a b c d e
five a b c d e t =
    let t₁ = and_r a (b && (c && (d && e))) t in
    let t₂ = and_r b (c && (d && e)) t₁ in
    let t₃ = and_r c (d && e) t₂ in
    record { fst = and_l a (b && (c && (d && e))) t; snd = and_l b (c && (d && e)) t₁; trd = and_l c (d && e) t₂; fth = and_l d e t₃; fif = and_r d e t₃ }

row_fit : (r : Row) → T (lower r) → T (upper r) → Fit r
unfolding lower upper
row_fit r t u =
    let v = five (leb r.a0 2305843009213693952) (middling r.a1) (middling r.a2) (middling r.a3) (middling r.a4) t in
    let w = five (middling r.a5) (middling r.a6) (middling r.a7) (middling r.a8) (middling r.a9) u in
    record {
      f0 = leb→le r.a0 2305843009213693952 v.fst;
      f1 = middling_is r.a1 v.snd;
      f2 = middling_is r.a2 v.trd;
      f3 = middling_is r.a3 v.fth;
      f4 = middling_is r.a4 v.fif;
      f5 = middling_is r.a5 w.fst;
      f6 = middling_is r.a6 w.snd;
      f7 = middling_is r.a7 w.trd;
      f8 = middling_is r.a8 w.fth;
      f9 = middling_is r.a9 w.fif;
    }

pub row_from_fit : (k : Coefs) → T (fitting k) → Fit (row_from k)
row_from_fit k t =
    let r = row_from k in
    let u = sizes_of k t in
    row_fit r (and_l (lower r) (upper r) u) (and_r (lower r) (upper r) u)

pub row_at_fit : (j : ℕ) → Fit (row_at j)
unfolding row_at
row_at_fit j = row_from_fit (coefs_at (min j 32)) (coefs_fitting (min j 32))

pub units_small : (n : ℕ) → units_at n ≤ 2558044588346441728
unfolding units_at
units_small n =
    series_small (row_at (n / 144115188075855872)) (n % 144115188075855872) (row_at_fit (n / 144115188075855872)) (rest_of n)
  where
    rest_of : (n : ℕ) → Rest (n % 144115188075855872)
    rest_of n = omega arith
