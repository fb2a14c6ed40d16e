-- A piece, step by step, as the program takes it: what is known after each step.
use mathlib.Core.Path.{◌≡◌, refl, sym, ap, ◌∙◌}
use mathlib.Core.Bool.{Bool, true}
use mathlib.Core.List.{List, [], ◌++◌, append_assoc, append-nil}
use Prim.Native.Nat.{ℕ, ◌≤◌, ◌<◌}
use native.Mathlib.Omega.{arith}
use lib.ListN.{length, take, drop, length-drop}
use lib.Seq.{take-append_seam}
use lib.Ieee.{Float}
use Rattle.std.proofs.lemmas.List.{nil_from_length}
use Rattle.desk_lines.specs.Hand.{most, first}
use Rattle.desk_lines.proofs.First.{first_some, parted}
use Rattle.desk_output.specs.Reading.{Reading, Fed, fed}
use Rattle.desk_stream.specs.Step.{After, stepped}
use Rattle.desk_stream.specs.Run.{Knows, KnowsPart, KnowsSome}
use Rattle.desk_output.proofs.Fed.{fed-append}
use Rattle.desk_stream.proofs.Runs.{stepped_feeds, stepped_rest}

pub knows_none : (q : Reading) → Knows q [] q
unfolding fed
knows_none q = refl

-- bytes behind others
pub knows_more : (q r s : Reading) (xs ys : List ℕ) → Knows q xs r → Knows r ys s → Knows q (xs ++ ys) s
knows_more q r s xs ys k l = l ∙ ap (λ (p : Reading). (fed p ys).reading) k ∙ sym (ap (λ (x : Fed). x.reading) (fed-append q xs ys))

-- the same of bytes that are not told
pub knows_behind : (q r s : Reading) → KnowsSome q r → KnowsSome r s → KnowsSome q s
knows_behind q r s k l = record { bytes = k.bytes ++ l.bytes; knows = knows_more q r s k.bytes l.bytes k.knows l.knows }

-- ---- the steps over a piece

-- what is known when `rest` is left of it
pub record Going (q : Reading) (piece rest : List ℕ) (r : Reading) : Type 0 where
  pub done : List ℕ
  pub parts : piece ≡ done ++ rest
  pub knows : Knows q done r

pub going_start : (q : Reading) (piece : List ℕ) → Going q piece piece q
going_start q piece = record { done = []; parts = refl; knows = knows_none q }

-- a step, as its contract tells it
module _ (q : Reading) (piece rest : List ℕ) (r : Reading) (room : List Float) (a : After) (steps : a ≡ stepped r rest room) where
  rest_is : a.rest ≡ drop (length (first rest)) rest
  rest_is = ap (λ (x : After). x.rest) steps ∙ stepped_rest r rest room

  pub rest-shorter : 0 < length rest → length a.rest < length rest
  rest-shorter h = omega (arith, ap length rest_is, length-drop (length (first rest)) rest, first_some rest h)

  pub going_more : length r.line ≤ most → Going q piece rest r → Going q piece a.rest a.reading
  going_more few g =
      record {
        done = g.done ++ first rest;
        parts = g.parts ∙ ap (λ (l : List ℕ). g.done ++ l) (parted rest ∙ ap (λ (l : List ℕ). first rest ++ l) (sym rest_is)) ∙ sym (append_assoc g.done (first rest) a.rest);
        knows = knows_more q r a.reading g.done (first rest) g.knows (ap (λ (x : After). x.reading) steps ∙ (stepped_feeds r rest room few).reading);
      }

module _ (q : Reading) (piece rest : List ℕ) (r : Reading) (g : Going q piece rest r) where
  so_far : take (length g.done) piece ≡ g.done
  so_far = ap (take (length g.done)) g.parts ∙ take-append_seam g.done rest

  -- where nothing is left, or a write has failed
  pub going_part : (written : Bool) → (written ≡ true → length rest ≡ 0) → KnowsPart q piece written r
  going_part written none = record {
    up_to = length g.done;
    knows = rw so_far g.knows;
    all = λ e. so_far ∙ sym (g.parts ∙ ap (λ (l : List ℕ). g.done ++ l) (nil_from_length rest (none e)) ∙ append-nil g.done);
  }
