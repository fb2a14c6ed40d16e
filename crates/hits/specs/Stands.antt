-- 01, 'Numbers taken and numbers given back': "Numbers after the hits stay as lent." What a call knows of a lent room while it works: the room stands for the hits so far, and the
-- rest is as lent.
use Rattle.std.specs.Prelude.{ℕ, ◌+◌, ◌≡◌, List, ◌++◌, length, Float}
use Rattle.hits.specs.declared.CurveHit.{CurveHit}
use Rattle.hits.specs.Hit.{written}

-- the first n hits of the room are hs
pub record Stands (hs : List CurveHit) (lent : List Float) (n : ℕ) (room : List Float) : Type 0 where
  pub count : n ≡ length hs
  pub numbers : room ≡ written hs lent

-- what is said of the first n hits of a room, whichever they are
abbrev pub OfHits : ℕ → List Float → (List CurveHit → Type 0) → Type 0
OfHits n room Says = (hs : List CurveHit) (lent : List Float) → Stands hs lent n room → Says hs

-- the hits gs come behind the first n, whichever these are
abbrev pub Adds : List CurveHit → ℕ → List Float → List Float → Type 0
Adds gs n before after = (hs : List CurveHit) (lent : List Float) → Stands hs lent n before → Stands (hs ++ gs) lent (n + length gs) after
