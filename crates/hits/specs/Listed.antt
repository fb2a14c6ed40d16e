-- 01, 'What must change shape': "`Vec<CurveHit>` and `vec!` of roots or candidates: lent f64 room, or two places and a count." What the two places hold, as the list that the Rust
-- gives back.
use Rattle.std.specs.Prelude.{List, [], ◌∷◌, Option, Some, None}
use Rattle.hits.specs.declared.CurveHit.{CurveHit}
use Rattle.hits.specs.declared.UpToTwo.{UpToTwo}
use Rattle.hits.specs.declared.UpToTwo.TheVariants.{Zero, One, Two}

module _ {A : Type 0} where
  abbrev pub listed : UpToTwo A → List A
  listed Zero = []
  listed (One h) = h ∷ []
  listed (Two h g) = h ∷ g ∷ []

  -- the candidates that are kept, in order
  abbrev pub one : Option A → UpToTwo A
  one (Some h) = One h
  one None = Zero

  abbrev pub both : Option A → Option A → UpToTwo A
  both (Some h) (Some g) = Two h g
  both (Some h) None = One h
  both None (Some g) = One g
  both None None = Zero

-- the parameters of each exchanged
abbrev pub turned : CurveHit → CurveHit
turned h = record { t_a = h.t_b; t_b = h.t_a; pos = h.pos }

abbrev pub exchanged : UpToTwo CurveHit → UpToTwo CurveHit
exchanged Zero = Zero
exchanged (One h) = One (turned h)
exchanged (Two h g) = Two (turned h) (turned g)
