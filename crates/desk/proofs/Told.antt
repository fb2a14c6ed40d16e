-- What the query on two curves tells, where the room is long enough.
use mathlib.Core.Path.{◌≡◌, sym, ap, ◌∙◌}
use mathlib.Core.Bool.{Bool, false}
use mathlib.Core.List.{List, ◌++◌}
use Prim.Native.Nat.{ℕ, ◌≤◌}
use native.Mathlib.Nat.{le_trans}
use native.Mathlib.Omega.{arith}
use lib.ListN.{length}
use lib.Ieee.{Float}
use Rattle.hits.specs.Need.{short}
use Rattle.hits.specs.Stands.{Stands}
use Rattle.hits.proofs.Needs.{not_short}
use Rattle.hits.specs.declared.Tally.{Tally}
use Rattle.hits.specs.Outcome.{tally}
use Rattle.std.specs.Prelude.{Ok, Err}
use Rattle.checks.specs.declared.Refusal.{Refusal}
use Rattle.checks.specs.Given.{tested}
use Rattle.checks.specs.declared.Faults.{Faults}
use Rattle.checks.specs.Refusal.{accepted, number_of, deep, refusal, unfaulted}
use Rattle.checks.specs.Answer.{Answer, hunted_told, tally_counts}
use Rattle.checks.proofs.Tested.{unrefused, not-deep, refusal_room}
use Rattle.curves.specs.declared.Curve.{Curve}
use Rattle.hits.specs.Need.{lengths}
use Rattle.calls_crossings.specs.Crossed.{Crossed}
use Rattle.calls_crossings.proofs.Told.{crossed-counted, crossed-told}
use Rattle.checks.specs.Given.{curve_numbers}
use Rattle.calls_curves.specs.Curves.{curves_hits, curves_outcome}
use Rattle.desk.specs.Refused.{pair_refusal}
use Rattle.desk.specs.Answer.{most_hits, room_need}
use Rattle.desk.proofs.Needs.{need-most, hits_most}

module _ (a b : Curve) (depth : ℕ) (room : List Float) (enough : room_need ≤ length room) where
  abbrev too_short : Bool
  too_short = short (curves_hits a b depth) (lengths room)

  abbrev faults : Faults
  faults = tested unfaulted (curve_numbers a ++ curve_numbers b)

  abbrev asked : ℕ
  asked = refusal faults (deep depth) too_short

  pair_refusal_lem : asked ≡ pair_refusal a b depth
  unfolding pair_refusal
  pair_refusal_lem = refusal_room faults depth too_short false (λ h. not_short (curves_hits a b depth) (lengths room) (le_trans (need-most a b depth h) enough))

  abbrev Tells : Answer → List Float → Type 0
  Tells told after = Crossed asked (curves_outcome a b depth).hits (tally_counts (tally (curves_outcome a b depth))) room told after

  -- what is known where it gives counts
  pub record Counted (t : Tally) (after : List Float) : Type 0 where
    pub taken : accepted ≡ pair_refusal a b depth
    pub counts : t ≡ tally (curves_outcome a b depth)
    pub stand : Stands (curves_outcome a b depth).hits room t.hits after
    pub few : t.hits ≤ most_hits

  pub cross_counted : (t : Tally) (after : List Float) → Tells (hunted_told (Ok t)) after → Counted t after
  cross_counted t after x =
      let o = curves_outcome a b depth in
      let (none, is, hits) = crossed-counted asked o.hits (tally o) room after t x in
      let count : t.hits ≡ length o.hits = ap (λ (u : Tally). u.hits) is in
      let passed = unrefused faults (deep depth) too_short none in
      record {
        taken = sym none ∙ pair_refusal_lem;
        counts = is;
        stand = record { count = count; numbers = hits };
        few = omega (arith, hits_most a b depth (not-deep depth passed.shallow));
      }

  pub cross_told : (r : Refusal) (after : List Float) → Tells (hunted_told (Err r)) after → (number_of r ≡ pair_refusal a b depth) × (after ≡ room)
  cross_told r after x =
      let (is, some, hits) = crossed-told asked (curves_outcome a b depth).hits (tally (curves_outcome a b depth)) room after r x in
      (sym is ∙ pair_refusal_lem, hits)
