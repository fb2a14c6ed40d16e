-- The tests of a call's numbers, over the whole list of them, and what it tells that a call is not refused.
use mathlib.Core.Path.{◌≡◌, refl, ap, ◌∙◌}
use mathlib.Core.Bool.{Bool, true, false, ◌||◌, cond}
use mathlib.Core.List.{List, [], ◌∷◌, ◌++◌}
use Prim.Native.Nat.{ℕ, ◌≤◌}
use native.Mathlib.Omega.{arith}
use borrow.Author.Tests.{ltb-false}
use lib.Ieee.{Float, nan, inf, fin, binary64, lt, of_bits}
use lib.Ieee.Scale.{finite}
use Rattle.std.specs.Float.{float_is_finite}
use Rattle.laws.specs.Size.{abs}
use Rattle.checks.specs.declared.Faults.{Faults}
use Rattle.checks.specs.Given.{Given, unreal, beyond, tested}
use Rattle.checks.specs.Refusal.{accepted, not_a_number, beyond_limit, too_deep, room_too_short, deepest, deep, refusal}

pub finite_size : (x : Float) → lt (abs x) (inf false) ≡ finite x
unfolding lt abs
finite_size nan = refl
finite_size (inf s) = refl
finite_size (fin s m e) = refl

-- by the bits of infinity
pub below_infinity : (x : Float) → lt (abs x) (of_bits binary64 0x7ff0000000000000) ≡ finite x
unfolding of_bits
below_infinity x = finite_size x

-- std's name for it
pub is_finite_finite : (x : Float) → float_is_finite x ≡ finite x
unfolding float_is_finite
is_finite_finite nan = refl
is_finite_finite (inf s) = refl
is_finite_finite (fin s m e) = refl

-- ---- "1 over all its numbers"

-- whether one of the numbers passes p
unfoldable pub some : (Given → Bool) → List Given → Bool
some p [] = false
some p (g ∷ gs) = p g || some p gs

or_assoc : (a b c : Bool) → (a || b) || c ≡ a || (b || c)
or_assoc true b c = refl
or_assoc false b c = refl

or_false : (a : Bool) → a ≡ a || false
or_false true = refl
or_false false = refl

pub some_unreal : (f : Faults) (gs : List Given) → (tested f gs).unreal ≡ f.unreal || some unreal gs
unfolding tested some
some_unreal f [] = or_false f.unreal
some_unreal f (g ∷ gs) = some_unreal (record { unreal = f.unreal || unreal g; beyond = f.beyond || beyond g }) gs ∙ or_assoc f.unreal (unreal g) (some unreal gs)

pub some_beyond : (f : Faults) (gs : List Given) → (tested f gs).beyond ≡ f.beyond || some beyond gs
unfolding tested some
some_beyond f [] = or_false f.beyond
some_beyond f (g ∷ gs) = some_beyond (record { unreal = f.unreal || unreal g; beyond = f.beyond || beyond g }) gs ∙ or_assoc f.beyond (beyond g) (some beyond gs)

pub tested-append : (f : Faults) (gs hs : List Given) → tested f (gs ++ hs) ≡ tested (tested f gs) hs
unfolding tested
tested-append f [] hs = refl
tested-append f (g ∷ gs) hs = tested-append (record { unreal = f.unreal || unreal g; beyond = f.beyond || beyond g }) gs hs

-- ---- what no refusal tells: every test is passed

pub record Passed (f : Faults) (deep short : Bool) : Type 0 where
  pub real : f.unreal ≡ false
  pub within : f.beyond ≡ false
  pub shallow : deep ≡ false
  pub long : short ≡ false

pub unrefused : (f : Faults) (deep short : Bool) → refusal f deep short ≡ accepted → Passed f deep short
unfolding refusal
unrefused f deep short = go f.unreal f.beyond deep short
  where
    go : (a b c d : Bool) → cond a not_a_number (cond b beyond_limit (cond c too_deep (cond d room_too_short accepted))) ≡ accepted → Passed (record { unreal = a; beyond = b }) c d
    go true b c d h = let z : ◌≡◌ {A = ℕ} not_a_number accepted = h in absurd (omega arith)
    go false true c d h = let z : ◌≡◌ {A = ℕ} beyond_limit accepted = h in absurd (omega arith)
    go false false true d h = let z : ◌≡◌ {A = ℕ} too_deep accepted = h in absurd (omega arith)
    go false false false true h = let z : ◌≡◌ {A = ℕ} room_too_short accepted = h in absurd (omega arith)
    go false false false false h = record { real = refl; within = refl; shallow = refl; long = refl }

pub not-deep : (depth : ℕ) → deep depth ≡ false → depth ≤ deepest
not-deep depth e = omega (arith, ltb-false deepest depth e)

-- past the depth's limit the room does not matter
pub refusal_room : (f : Faults) (depth : ℕ) (short short' : Bool) → (depth ≤ deepest → short ≡ short') → refusal f (deep depth) short ≡ refusal f (deep depth) short'
unfolding refusal
refusal_room f depth short short' h = go (deep depth) refl
  where
    go : (c : Bool) → deep depth ≡ c → refusal f c short ≡ refusal f c short'
    go true i = refl
    go false i = ap (λ (s : Bool). refusal f false s) (h (not-deep depth i))
