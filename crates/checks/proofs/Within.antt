-- What no refusal tells of a number that the call was given: its size is within its limit.
use mathlib.Core.Path.{◌≡◌, sym, ap, ◌∙◌, subst}
use mathlib.Core.Logic.{◌⊎◌, inl, inr}
use mathlib.Core.Bool.{Bool, false, not}
use mathlib.Core.List.Memᴰ
use mathlib.Core.List.{List, [], ◌∷◌, Memᴰ}
use Prim.Native.Nat.{ℕ}
use borrow.Author.Tests.{not-false}
use lib.Dec.{T}
use lib.Ieee.{Float, is_nan, lt, le, of_bits}
use lib.Ieee.Scale.{finite}
use Rattle.laws.specs.Size.{power, abs}
use Rattle.laws.proofs.Logic.{or_false_left, or_false_right}
use Rattle.laws.proofs.Order.{finite_number, lt-or-le}
use Rattle.laws.proofs.Size.{number-abs}
use Rattle.checks.specs.Given.{Given, coordinate, angle, unreal, beyond, tested}
use Rattle.checks.specs.Refusal.{accepted, unfaulted, refusal_of}
use Rattle.checks.proofs.Tested.{some, some_unreal, some_beyond, unrefused}

-- a number's size, and its limit as a power of two: 1,048,576 and 1,024
abbrev pub size : Given → Float
size (coordinate x) = abs x
size (angle x) = abs x

abbrev pub limit : Given → ℕ
limit (coordinate x) = 20
limit (angle x) = 10

-- where none of some numbers passes p, each fails it
none_passes : (p : Given → Bool) (g : Given) (gs : List Given) → some p gs ≡ false → Memᴰ g gs → p g ≡ false
unfolding some
none_passes p g [] e m = absurd (Memᴰ.not-nil m)
none_passes p g (h ∷ gs) e m = go (Memᴰ.cases_cons m) (none_passes p g gs (or_false_right (p h) (some p gs) e))
  where
    go : (g ≡ h) ⊎ Memᴰ g gs → (Memᴰ g gs → p g ≡ false) → p g ≡ false
    go (inl q) later = ap p q ∙ or_false_left (p h) (some p gs) e
    go (inr n) later = later n

not_above : (k : ℕ) (x : Float) → not (finite x) ≡ false → lt (power k) (abs x) ≡ false → T (le (abs x) (power k))
not_above k x u v =
    let real : T (finite x) = rw (not-false (finite x) u) tt in
    elim (lt-or-le (power k) (abs x) (unfold is_nan in tt) (number-abs x (finite_number x real))) [ inl l ↦ absurd (subst T v l) | inr l ↦ l ]

-- EACH NUMBER of a call that is not refused
pub given_within : (gs : List Given) (deep short : Bool) → refusal_of gs deep short ≡ accepted → (g : Given) → Memᴰ g gs → T (le (size g) (power (limit g)))
unfolding of_bits
given_within gs deep short e g m =
    let passed = unrefused (tested unfaulted gs) deep short e in
    go g
    (none_passes unreal g gs (sym (some_unreal unfaulted gs) ∙ passed.real) m)
    (none_passes beyond g gs (sym (some_beyond unfaulted gs) ∙ passed.within) m)
  where
    go : (g : Given) → unreal g ≡ false → beyond g ≡ false → T (le (size g) (power (limit g)))
    go (coordinate x) u v = not_above 20 x u v
    go (angle x) u v = not_above 10 x u v
