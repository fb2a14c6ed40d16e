-- THE STREAM: whatever the pieces and the steps, what is printed is the output for all the bytes that were taken. And a step and the end have one outcome.
use mathlib.Core.Path.{◌≡◌, refl, sym, ap, ◌∙◌}
use mathlib.Core.Bool.{Bool, true, false, cond}
use mathlib.Core.List.{List, [], ◌∷◌, ◌++◌, append-nil}
use Prim.Native.Nat.{ℕ, ◌+◌, ◌≤◌, ◌<◌}
use native.Mathlib.Omega.{arith}
use lib.Dec.{ltb}
use lib.ListN.{length, drop, length-take}
use lib.Ieee.{Float}
use Rattle.desk_line.specs.Read.{read_line}
use Rattle.desk.specs.Reply.{shown}
use Rattle.desk_lines.specs.Lines.{newline}
use Rattle.desk_lines.specs.Hand.{most, before, ends, first, hand_of}
use Rattle.desk_lines.proofs.First.{first-before}
use Rattle.desk_output.specs.Output.{output}
use Rattle.desk_output.specs.Reading.{Reading, Fed, largest, start, fed, last}
use Rattle.desk_stream.specs.Step.{After, Finished, answered, waiting, stepped, finishing, finished}
use Rattle.desk_stream.specs.Run.{Lent, taken, step_of, Ran, ran, end_of}
use Rattle.desk_output.proofs.Fed.{then, fed-append, fed-output}
use Rattle.desk_stream.proofs.Before.{fed-before}

-- ---- one step

-- what a step leaves, as bytes that come: what is known then, and what is printed
pub record Feeds (q : Reading) (bytes : List ℕ) (a : After) : Type 0 where
  pub reading : a.reading ≡ (fed q bytes).reading
  pub printed : a.out ≡ (fed q bytes).printed
  pub few : length a.reading.line ≤ most

module _ (q : Reading) (piece : List ℕ) (room : List Float) (few : length q.line ≤ most) where
  abbrev hand : List ℕ
  hand = hand_of q.line piece

  feeds_waiting : (rest : List ℕ) → Feeds q (before piece) (waiting q rest hand room)
  feeds_waiting rest =
      let so = fed-before q piece few in
      record { reading = sym (ap (λ (x : Fed). x.reading) so); printed = sym (ap (λ (x : Fed). x.printed) so); few = omega (arith, length-take most (q.line ++ before piece)) }

  feeds_answered : (rest : List ℕ) → Feeds q (before piece ++ newline ∷ []) (answered q rest hand room)
  unfolding fed
  feeds_answered rest =
      let all = fed-append q (before piece) (newline ∷ []) ∙ ap (λ (x : Fed). then x (fed x.reading (newline ∷ []))) (fed-before q piece few) in
      record {
        reading = sym (ap (λ (x : Fed). x.reading) all);
        printed = sym (append-nil (shown q.table q.number (read_line hand)).bytes) ∙ sym (ap (λ (x : Fed). x.printed) all);
        few = omega arith;
      }

  pub stepped_feeds : Feeds q (first piece) (stepped q piece room)
  unfolding stepped
  stepped_feeds = go (ends piece) (first-before piece)
    where
      go : (e : Bool) → first piece ≡ cond e (before piece ++ newline ∷ []) (before piece)
          → Feeds q (first piece) (cond e (answered q (drop (length (first piece)) piece) hand room) (waiting q (drop (length (first piece)) piece) hand room))
      go true e = rw e (feeds_answered (drop (length (before piece ++ newline ∷ [])) piece))
      go false e = rw e (feeds_waiting (drop (length (before piece)) piece))

-- the bytes that are left
pub stepped_rest : (q : Reading) (piece : List ℕ) (room : List Float) → (stepped q piece room).rest ≡ drop (length (first piece)) piece
unfolding stepped
stepped_rest q piece room = go (ends piece)
  where
    rest : List ℕ
    rest = drop (length (first piece)) piece

    go : (e : Bool) → (cond e (answered q rest (hand_of q.line piece) room) (waiting q rest (hand_of q.line piece) room)).rest ≡ rest
    go true = refl
    go false = refl

pub finished-last : (q : Reading) (room : List Float) → (finished q room).out ≡ last q
unfolding finished
finished-last q room = go (ltb 0 (length q.line))
  where
    shows : List ℕ
    shows = (shown q.table q.number (read_line q.line)).bytes

    go : (e : Bool) → (cond e (finishing (shown q.table q.number (read_line q.line)) room) (record { room = room; out = [] })).out ≡ cond e shows []
    go true = refl
    go false = refl

-- ---- the steps one after the other

pub record Reads (q : Reading) (r : Ran) : Type 0 where
  pub reading : r.reading ≡ (fed q r.bytes).reading
  pub printed : r.printed ≡ (fed q r.bytes).printed

pub ran_reads : (q : Reading) (ls : List Lent) → length q.line ≤ most → Reads q (ran q ls)
unfolding ran fed
ran_reads q [] few = record { reading = refl; printed = refl }
ran_reads q (l ∷ ls) few =
    let a = step_of q l in
    let one = stepped_feeds q l.piece l.room few in
    let more = ran_reads a.reading ls one.few in
    let rest = (ran a.reading ls).bytes in
    let all = fed-append q (taken l) rest in
    record {
      reading = more.reading ∙ ap (λ (p : Reading). (fed p rest).reading) one.reading ∙ sym (ap (λ (x : Fed). x.reading) all);
      printed =
          ap (λ (x : List ℕ). x ++ (ran a.reading ls).printed) one.printed ∙
          ap (λ (x : List ℕ). (fed q (taken l)).printed ++ x) (more.printed ∙ ap (λ (p : Reading). (fed p rest).printed) one.reading) ∙
          sym (ap (λ (x : Fed). x.printed) all);
    }

-- what is printed goes by the bytes alone
run_prints : (ls : List Lent) (room : List Float) → let r = ran start ls in r.printed ++ end_of r room ≡ (fed start r.bytes).printed ++ last (fed start r.bytes).reading
run_prints ls room =
    let r = ran start ls in
    let reads = ran_reads start ls (omega arith) in
    ap (λ (x : List ℕ). x ++ end_of r room) reads.printed ∙ ap (λ (x : List ℕ). (fed start r.bytes).printed ++ x) (finished-last r.reading room ∙ ap last reads.reading)

-- THE STREAM IS THE OUTPUT. Fewer than 2^64 - 2 bytes have line numbers of 64 bits.
pub run-output : (ls : List Lent) (room : List Float) → let r = ran start ls in 1 + length r.bytes < largest → r.printed ++ end_of r room ≡ output r.bytes
run-output ls room h = run_prints ls room ∙ fed-output (ran start ls).bytes h

-- WHATEVER THE PIECES: two runs that take the same bytes print the same
pub pieces_alike : (ls ls' : List Lent) (room room' : List Float) → let r = ran start ls in let r' = ran start ls' in
    r.bytes ≡ r'.bytes → r.printed ++ end_of r room ≡ r'.printed ++ end_of r' room'
pieces_alike ls ls' room room' same =
    run_prints ls room ∙ ap (λ (bytes : List ℕ). (fed start bytes).printed ++ last (fed start bytes).reading) same ∙ sym (run_prints ls' room')

-- ---- NO SECOND OUTCOME

pub step_unique : (q : Reading) (piece : List ℕ) (room : List Float) (x y : After) → x ≡ stepped q piece room → y ≡ stepped q piece room
    → (x.reading ≡ y.reading) × (x.rest ≡ y.rest) × (x.room ≡ y.room) × (x.out ≡ y.out)
step_unique q piece room x y d e =
    let same = d ∙ sym e in
    (ap (λ (z : After). z.reading) same, ap (λ (z : After). z.rest) same, ap (λ (z : After). z.room) same, ap (λ (z : After). z.out) same)

pub finish_unique : (q : Reading) (room : List Float) (x y : Finished) → x ≡ finished q room → y ≡ finished q room → (x.room ≡ y.room) × (x.out ≡ y.out)
finish_unique q room x y d e =
    let same = d ∙ sym e in
    (ap (λ (z : Finished). z.room) same, ap (λ (z : Finished). z.out) same)
