-- The bytes before a newline print nothing and make the line at hand longer.
use mathlib.Core.Path.{◌≡◌, refl, sym, ap, ◌∙◌}
use mathlib.Core.Bool.{Bool, true, false, cond}
use mathlib.Core.List.{List, [], ◌∷◌, ◌++◌, append-nil}
use Prim.Native.Nat.{ℕ, ◌≤◌}
use native.Mathlib.Omega.{arith}
use lib.Dec.{eqb}
use lib.ListN.{length, length-take}
use lib.Seq.{append_snoc}
use Rattle.desk_lines.specs.Lines.{newline}
use Rattle.desk_lines.specs.Hand.{most, kept, before}
use Rattle.desk_lines.proofs.Kept.{kept_append, kept_whole}
use Rattle.desk_output.specs.Reading.{Reading, fed}
use Rattle.desk_output.proofs.Fed.{held, fed_byte}

fed-none : (q : Reading) → length q.line ≤ most → fed q [] ≡ record { printed = []; reading = held q (kept (q.line ++ [])) }
unfolding fed
fed-none q few = ap (λ (l : List ℕ). record { printed = []; reading = held q l }) (sym (ap kept (append-nil q.line) ∙ kept_whole q.line few))

pub fed-before : (q : Reading) (bytes : List ℕ) → length q.line ≤ most → fed q (before bytes) ≡ record { printed = []; reading = held q (kept (q.line ++ before bytes)) }
unfolding before
fed-before q [] few = fed-none q few
fed-before q (b ∷ bytes) few = go (eqb b newline) refl (fed-none q few) (fed-before (held q longerLine) bytes short)
  where
    longerLine : List ℕ
    longerLine = kept (q.line ++ b ∷ [])

    short : length longerLine ≤ most
    short = omega (arith, length-take most (q.line ++ b ∷ []))

    same : kept (longerLine ++ before bytes) ≡ kept (q.line ++ b ∷ before bytes)
    same = kept_append (q.line ++ b ∷ []) (before bytes) ∙ ap kept (append_snoc q.line b (before bytes))

    Keeps : Reading → List ℕ → Type 0
    Keeps p line = fed p line ≡ record { printed = []; reading = held p (kept (p.line ++ line)) }

    go : (e : Bool) → eqb b newline ≡ e → Keeps q [] → Keeps (held q longerLine) (before bytes) → Keeps q (cond e [] (b ∷ before bytes))
    go true e none more = none
    go false e none more = fed_byte q b (before bytes) e ∙ more ∙ ap (λ (l : List ℕ). record { printed = []; reading = held q l }) same
