-- The room of hits: what one more hit makes of it, and what stands in it.
use mathlib.Core.Path.{◌≡◌, refl, sym, ap, ◌∙◌}
use mathlib.Core.List.{List, [], ◌∷◌, ◌++◌, map}
use Prim.Native.Nat.{ℕ, zero as nought, suc, ◌+◌, ◌*◌, ◌/◌, ◌≤◌, ◌<◌}
use native.Mathlib.Nat.{mul_comm, zero-mul, suc-mul, add-zero}
use native.Mathlib.Omega.{arith}
use lib.ListN.{length, get_or, take, drop, set}
use lib.Seq.{drop-cons, drop-drop, get_or-take, get_or-drop}
use lib.Ieee.{Float, nan}
use Rattle.std.specs.Simd.{first_chunks}
use Rattle.rooms.specs.Laid.{flat, laid}
use Rattle.rooms.proofs.Laws.{stored-placed, laid_none, laid_more, laid_read}
use Rattle.hits.specs.declared.CurveHit.{CurveHit}
use Rattle.hits.specs.Hit.{hit_size, numbers, hit_from, written, put, hit_at}
use Rattle.hits.specs.Stands.{Stands}

-- ---- the size of a hit

pub numbers_size : (h : CurveHit) → length (numbers h) ≡ hit_size
numbers_size h = refl

-- ---- writing

pub written_none : (l : List Float) → written [] l ≡ l
unfolding written
written_none l = laid_none numbers l

-- one store after the other
pub put_stores : (l : List Float) (n : ℕ) (h : CurveHit) → n < length l / hit_size
    → let from = n * hit_size in set (set (set (set l from h.t_a) (from + 1) h.t_b) (from + 2) h.pos.x) (from + 3) h.pos.y ≡ put l n h
unfolding put
put_stores l n h fit =
    let from = n * hit_size in
    let two : from + 1 + 1 ≡ from + 2 = omega arith in
    let three : from + 2 + 1 ≡ from + 3 = omega arith in
    rw (two, three) at (stored-placed (numbers h) from l (omega arith))

-- after the hits hs, the hit h
pub put_written : (hs : List CurveHit) (h : CurveHit) (l : List Float) → put (written hs l) (length hs) h ≡ written (hs ++ h ∷ []) l
unfolding put written
put_written hs h l = rw (mul_comm (length hs) hit_size) (laid_more numbers hit_size numbers_size hs h l)

pub put_first : (h : CurveHit) (l : List Float) → put l 0 h ≡ written (h ∷ []) l
put_first h l = ap (λ (m : List Float). put m 0 h) (sym (written_none l)) ∙ put_written [] h l

pub put_second : (h g : CurveHit) (l m : List Float) → m ≡ put l 0 h → put m 1 g ≡ written (h ∷ g ∷ []) l
put_second h g l m e = ap (λ (x : List Float). put x 1 g) (e ∙ put_first h l) ∙ put_written (h ∷ []) g l

-- ---- reading

-- the hits from i on: that which stands at i, and those from the next on
pub hits_step : (hs : List CurveHit) (lent : List Float) (i : ℕ) → i < length hs → drop i hs ≡ hit_at (written hs lent) i ∷ drop (suc i) hs
unfolding written
hits_step hs lent i h =
    let here = hit_at (laid numbers hs lent) i in
    let read : (j : ℕ) → j < hit_size → get_or (laid numbers hs lent) (i * hit_size + j) nan ≡ get_or (numbers (get_or hs i here)) j nan =
    λ j k. laid_read numbers hit_size numbers_size hs lent i j here nan h k in
    let first : get_or (laid numbers hs lent) (i * hit_size) nan ≡ (get_or hs i here).t_a = rw (add-zero (i * hit_size)) at (read 0 (omega arith)) in
    let same : get_or hs i here ≡ here = sym (of_fields first (read 1 (omega arith)) (read 2 (omega arith)) (read 3 (omega arith))) in
    drop-cons hs i here h ∙ ap (λ (g : CurveHit). g ∷ drop (suc i) hs) same
  where
    of_fields : {h : CurveHit} {ta tb x y : Float} → ta ≡ h.t_a → tb ≡ h.t_b → x ≡ h.pos.x → y ≡ h.pos.y
        → ◌≡◌ {A = CurveHit} (record { t_a = ta; t_b = tb; pos = record { x = x; y = y } }) h
    of_fields a b c d = rw (a, b, c, d) refl

-- chunk i of a list
chunk_at : {A : Type 0} (n k : ℕ) (xs : List A) (i : ℕ) (d : List A) → i < k → get_or (first_chunks n k xs) i d ≡ take n (drop (i * n) xs)
chunk_at n nought xs i d h = absurd (omega arith)
chunk_at n (suc k) xs nought d h = rw (zero-mul n)
chunk_at n (suc k) xs (suc i) d h =
    let from : n + i * n ≡ suc i * n = omega (arith, suc-mul i n) in
    chunk_at n k (drop n xs) i d (omega arith) ∙ ap (take n) (drop-drop (i * n) n xs ∙ ap (λ (m : ℕ). drop m xs) from)

-- the hit i of a room that is read hit by hit
pub chunk_hit : (l : List Float) (k i : ℕ) (d : List Float) → i < k → hit_from (get_or (first_chunks hit_size k l) i d) ≡ hit_at l i
chunk_hit l k i d h =
    let read : (j : ℕ) → j < hit_size → get_or (take hit_size (drop (i * hit_size) l)) j nan ≡ get_or l (i * hit_size + j) nan =
    λ j f. get_or-take hit_size (drop (i * hit_size) l) j nan f ∙ get_or-drop (i * hit_size) l j nan in
    rw (chunk_at hit_size k l i d h, read 0 (omega arith), read 1 (omega arith), read 2 (omega arith), read 3 (omega arith), add-zero (i * hit_size))

-- the hits that a room stands for, read hit by hit
chunks_flat : (hs : List CurveHit) (behind : List Float) (k : ℕ) → length hs ≤ k → map hit_from (take (length hs) (first_chunks hit_size k (flat numbers hs ++ behind))) ≡ hs
unfolding flat
chunks_flat [] behind k l = refl
chunks_flat (h ∷ hs) behind nought l = absurd (omega arith)
chunks_flat (h ∷ hs) behind (suc k) l = ap (λ (gs : List CurveHit). h ∷ gs) (chunks_flat hs behind k (omega arith))

pub hits_read : (hs : List CurveHit) (lent : List Float) (n k : ℕ) (room : List Float) → Stands hs lent n room → n ≤ k → map hit_from (take n (first_chunks hit_size k room)) ≡ hs
unfolding written laid
hits_read hs lent n k room s l = rw (s.count, s.numbers) (chunks_flat hs _ k (rw (← s.count) l))
