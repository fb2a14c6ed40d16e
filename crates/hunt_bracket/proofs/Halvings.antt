-- The halvings, one after the other, and how many angles they look at.
use mathlib.Core.Path.{◌≡◌, refl, ap, ◌∙◌}
use mathlib.Core.List.{[], ◌∷◌}
use Prim.Native.Nat.{ℕ, zero as nought, suc, ◌+◌}
use native.Mathlib.Numerals.{add-one}
use lib.ListN.{length, length-append}
use lib.Ieee.{Float}
use Rattle.hunt_bracket.specs.declared.Stretch.{Stretch}
use Rattle.hunt_bracket.specs.Narrow.{middle_of, halved, narrowed, middles}

pub narrowed_none : (g : Float → Float) (s : Stretch) → narrowed g 0 s ≡ s
unfolding narrowed
narrowed_none g s = refl

pub narrowed_more : (g : Float → Float) (n : ℕ) (s : Stretch) → narrowed g (n + 1) s ≡ halved g (narrowed g n s)
unfolding narrowed
narrowed_more g n s = rw add-one

pub middles-length : (g : Float → Float) (n : ℕ) (s : Stretch) → length (middles g n s) ≡ n
unfolding middles
middles-length g nought s = refl
middles-length g (suc n) s = length-append (middles g n s) (middle_of (narrowed g n s) ∷ []) ∙ ap (λ (m : ℕ). m + 1) (middles-length g n s) ∙ add-one n
