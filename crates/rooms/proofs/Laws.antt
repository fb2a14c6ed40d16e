-- Records in a lent room: none, one more, the length, what stands at a place, the rest as lent, and a part of the room from the middle on.
use mathlib.Core.Path.{◌≡◌, refl, sym, ap, ◌∙◌}
use mathlib.Core.List.{List, [], ◌∷◌, ◌++◌, append_assoc, append-nil}
use Prim.Native.Nat.{ℕ, zero, suc, ◌+◌, ◌*◌, ◌≤◌, ◌<◌}
use native.Mathlib.Nat.{not-suc-le-zero, zero-add, add-zero, mul-suc, suc-mul, zero-mul, le_refl}
use native.Mathlib.Numerals.{add-one}
use native.Mathlib.Omega.{arith}
use lib.ListN.{length, get_or, take, drop, set, length-append, length-drop, length-set, take-append-drop, drop_of_length-le, get_or-append}
use lib.Seq.{drop-drop, drop-cons, take-append_seam, drop-append_seam, drop-append-add, get_or-append-add, append_snoc, length-take-le, lt-length-set, take-suc, take-set-le, get_or-set_same, drop-set-lt}
use Rattle.rooms.specs.Laid.{over, placed, flat, laid}

-- ---- values

module _ {B : Type 0} where
  pub over-length : (values lent : List B) → length values ≤ length lent → length (over values lent) ≡ length lent
  over-length values lent fit = length-append values (drop (length values) lent) ∙ rw (length-drop (length values) lent) (omega arith)

  pub placed-length : (values : List B) (i : ℕ) (lent : List B) → i + length values ≤ length lent → length (placed values i lent) ≡ length lent
  placed-length values i lent fit =
      length-append (take i lent ++ values) (drop (i + length values) lent) ∙
      rw (length-append (take i lent) values, length-take-le i lent (omega arith), length-drop (i + length values) lent) (omega arith)

  -- values behind others
  pub placed-over : (xs ys lent : List B) → placed ys (length xs) (over xs lent) ≡ over (xs ++ ys) lent
  placed-over xs ys lent =
      rw (take-append_seam xs (drop (length xs) lent), drop-append-add xs (drop (length xs) lent) (length ys), drop-drop (length ys) (length xs) lent, length-append xs ys) refl

  -- one store after the other, from a place on, as code writes values
  abbrev pub stored : List B → ℕ → List B → List B
  stored [] i lent = lent
  stored (x ∷ values) i lent = stored values (i + 1) (set lent i x)

  -- where they fit these are the values at their place
  pub stored-placed : (values : List B) (i : ℕ) (lent : List B) → i + length values ≤ length lent → stored values i lent ≡ placed values i lent
  stored-placed [] i lent fit = rw (append-nil (take i lent), add-zero i) (sym (take-append-drop i lent))
  stored-placed (x ∷ values) i lent fit =
      let within : i < length lent = omega arith in
      let n = length values in
      let front : take (i + 1) (set lent i x) ≡ take i lent ++ x ∷ [] =
      rw (add-one i, take-suc (set lent i x) i x (lt-length-set lent i x within), take-set-le i lent i x (le_refl i), get_or-set_same lent i x x within) refl in
      let back : drop (i + 1 + n) (set lent i x) ≡ drop (i + suc n) lent = drop-set-lt (i + 1 + n) lent i x (omega arith) ∙ rw (next i n) refl in
      stored-placed values (i + 1) (set lent i x) (rw (length-set lent i x) (omega arith)) ∙ rw (front, back, append_snoc (take i lent) x values) refl
    where
      next : (i n : ℕ) → i + 1 + n ≡ i + suc n
      next i n = omega arith

  pub stored-over : (values lent : List B) → length values ≤ length lent → stored values 0 lent ≡ over values lent
  stored-over values lent fit = stored-placed values 0 lent (rw (zero-add (length values)) fit) ∙ rw (zero-add (length values)) refl

  -- what is left to store from i on, after one more
  pub stored_next : (values : List B) (i : ℕ) (x : B) (lent : List B) → i < length values → stored (drop i values) i lent ≡ stored (drop (i + 1) values) (i + 1) (set lent i (get_or values i x))
  stored_next values i x lent h = rw (drop-cons values i x h, ← add-one i) refl

  pub stored-done : (values : List B) (i : ℕ) (lent : List B) → length values ≤ i → stored (drop i values) i lent ≡ lent
  stored-done values i lent h = rw (drop_of_length-le values h) refl

-- ---- records, each as its values

module _ {A B : Type 0} (f : A → List B) where
  pub flat_append : (rs ss : List A) → flat f (rs ++ ss) ≡ flat f rs ++ flat f ss
  unfolding flat
  flat_append [] ss = refl
  flat_append (r ∷ rs) ss = ap (λ (l : List B). f r ++ l) (flat_append rs ss) ∙ sym (append_assoc (f r) (flat f rs) (flat f ss))

  pub flat-one : (r : A) → flat f (r ∷ []) ≡ f r
  unfolding flat
  flat-one r = append-nil (f r)

  pub laid_none : (lent : List B) → laid f [] lent ≡ lent
  unfolding laid flat
  laid_none lent = refl

  -- the rest as lent
  pub laid-rest : (rs : List A) (lent : List B) → drop (length (flat f rs)) (laid f rs lent) ≡ drop (length (flat f rs)) lent
  unfolding laid
  laid-rest rs lent = drop-append_seam (flat f rs) (drop (length (flat f rs)) lent)

  -- records behind others
  pub laid-append : (rs ss : List A) (lent : List B) → placed (flat f ss) (length (flat f rs)) (laid f rs lent) ≡ laid f (rs ++ ss) lent
  unfolding laid
  laid-append rs ss lent = placed-over (flat f rs) (flat f ss) lent ∙ ap (λ (l : List B). over l lent) (sym (flat_append rs ss))

  -- the part of the room behind some records, lent on for others
  pub laid-part : (rs ss : List A) (lent : List B) → let n = length (flat f rs) in take n (laid f rs lent) ++ laid f ss (drop n (laid f rs lent)) ≡ laid f (rs ++ ss) lent
  unfolding laid
  laid-part rs ss lent =
      let here = flat f rs in
      let behind = drop (length here) lent in
      rw (
        take-append_seam here behind,
        drop-append_seam here behind,
        drop-drop (length (flat f ss)) (length here) lent,
        flat_append rs ss,
        length-append here (flat f ss),
      ) (sym (append_assoc here (flat f ss) (drop (length here + length (flat f ss)) lent)))

-- ---- records of one width

module _ {A B : Type 0} (f : A → List B) (w : ℕ) (wide : (r : A) → length (f r) ≡ w) where
  pub flat-length : (rs : List A) → length (flat f rs) ≡ w * length rs
  unfolding flat
  flat-length [] = omega arith
  flat-length (r ∷ rs) = length-append (f r) (flat f rs) ∙ rw (wide r, flat-length rs, mul-suc w (length rs)) (omega arith)

  pub laid-length : (rs : List A) (lent : List B) → w * length rs ≤ length lent → length (laid f rs lent) ≡ length lent
  unfolding laid
  laid-length rs lent fit = over-length (flat f rs) lent (rw (flat-length rs) fit)

  -- one record more
  pub laid_more : (rs : List A) (r : A) (lent : List B) → placed (f r) (w * length rs) (laid f rs lent) ≡ laid f (rs ++ r ∷ []) lent
  laid_more rs r lent =
      rw (← flat-length rs)
      (ap (λ (values : List B). placed values (length (flat f rs)) (laid f rs lent)) (sym (flat-one f r)) ∙ laid-append f rs (r ∷ []) lent)

  -- number j of record i, whatever is behind
  flat_read : (rs : List A) (behind : List B) (i j : ℕ) (r : A) (x : B) → i < length rs → j < w → get_or (flat f rs ++ behind) (i * w + j) x ≡ get_or (f (get_or rs i r)) j x
  unfolding flat
  flat_read [] behind i j r x h k = absurd (not-suc-le-zero h)
  flat_read (s ∷ rs) behind zero j r x h k =
      rw (append_assoc (f s) (flat f rs) behind, zero-mul w, zero-add j) (get_or-append (f s) (flat f rs ++ behind) x j (rw (wide s) k))
  flat_read (s ∷ rs) behind (suc i) j r x h k =
      let from : suc i * w + j ≡ length (f s) + (i * w + j) = rw (wide s, suc-mul i w) (omega arith) in
      rw (append_assoc (f s) (flat f rs) behind, from) (get_or-append-add (f s) (flat f rs ++ behind) (i * w + j) x ∙ flat_read rs behind i j r x (omega arith) k)

  pub laid_read : (rs : List A) (lent : List B) (i j : ℕ) (r : A) (x : B) → i < length rs → j < w → get_or (laid f rs lent) (i * w + j) x ≡ get_or (f (get_or rs i r)) j x
  unfolding laid
  laid_read rs lent i j r x h k = flat_read rs (drop (length (flat f rs)) lent) i j r x h k
