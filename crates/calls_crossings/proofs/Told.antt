-- What the contract of a call with a depth tells of an answer: back from `crossed_done` and `crossed_refused`.
use mathlib.Core.Path.{◌≡◌, refl, sym, ap, ◌∙◌}
use mathlib.Core.Bool.{Bool, true, false}
use mathlib.Core.List.{List}
use Prim.Native.Nat.{ℕ}
use native.Mathlib.Omega.{arith}
use borrow.Author.Tests.{eqb-true, eq-eqb}
use lib.Dec.{eqb}
use lib.ListN.{length, take}
use lib.Ieee.{Float}
use Rattle.std.specs.Prelude.{Result, Ok, Err}
use Rattle.hits.specs.declared.CurveHit.{CurveHit}
use Rattle.hits.specs.declared.Tally.{Tally}
use Rattle.hits.specs.Hit.{written}
use Rattle.checks.specs.declared.Refusal.{Refusal}
use Rattle.checks.specs.Refusal.{accepted, number_of}
use Rattle.checks.specs.Answer.{Answer, answered, hunted_told, tally_counts}
use Rattle.checks.proofs.Outcomes.{hunted_told_unique}
use Rattle.calls_crossings.specs.Crossed.{Crossed}

-- an answer with counts is no refusal, and an answer that is one has its number
module _ (n : ℕ) (hs : List CurveHit) (t : Tally) (before after : List Float) where
  pub crossed-counted : (u : Tally) → Crossed n hs (tally_counts t) before (hunted_told (Ok u)) after → (n ≡ accepted) × (u ≡ t) × (after ≡ written hs before)
  unfolding answered
  crossed-counted u x = go (eqb n accepted) refl
    where
      go : (e : Bool) → eqb n accepted ≡ e → (n ≡ accepted) × (u ≡ t) × (after ≡ written hs before)
      go true e =
          let same : ◌≡◌ {A = Result Tally Refusal} (Ok u) (Ok t) = hunted_told_unique (Ok u) (Ok t) (rw e at x.answer) in
          (eqb-true n accepted e, cc, rw e at x.room)
      go false e =
          let zero : 0 ≡ n = ap (λ (a : Answer). a.refusal) (rw e at x.answer) in
          let both : true ≡ false = sym (eq-eqb n accepted (sym zero)) ∙ e in
          let never : ◌≡◌ {A = ℕ} 0 1 = cc in
          absurd (omega arith)

  pub crossed-told : (r : Refusal) → Crossed n hs (tally_counts t) before (hunted_told (Err r)) after → (n ≡ number_of r) × (eqb n accepted ≡ false) × (after ≡ before)
  unfolding answered
  crossed-told r x = go (eqb n accepted) refl
    where
      go : (e : Bool) → eqb n accepted ≡ e → (n ≡ number_of r) × (eqb n accepted ≡ false) × (after ≡ before)
      go true e =
          let longer : ◌≡◌ {A = ℕ} 0 1 = ap (λ (a : Answer). length (take 1 a.counts)) (rw e at x.answer) in
          absurd (omega arith)
      go false e = (sym (ap (λ (a : Answer). a.refusal) (rw e at x.answer)), e, rw e at x.room)
