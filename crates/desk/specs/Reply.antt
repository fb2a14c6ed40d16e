-- 01, 'The program arcdesk and its lines': "A refused line prints `R`, line number, refusal, and the table stays. An `S` or `A` that is taken prints nothing." A query prints its hits
-- and its end line.
use Rattle.std.specs.Prelude.{ℕ, cond, List, [], ◌++◌, eqb, Option, Some, None}
use Rattle.hits.specs.declared.CurveHit.{CurveHit}
use Rattle.hits.specs.Outcome.{Outcome, tally}
use Rattle.checks.specs.Refusal.{accepted}
use Rattle.calls_curves.specs.Curves.{curves_outcome}
use Rattle.desk_line.specs.declared.Line.{Line}
use Rattle.desk_line.specs.declared.Line.TheVariants as says
use Rattle.desk.specs.declared.Table.{Table}
use Rattle.desk.specs.Table.{record_at, stored}
use Rattle.desk.specs.Refused.{refusal}
use Rattle.desk_print.specs.Printed.{refused_line, hit_lines, end_line}

-- the bytes to print, and the hits that are left in the room
pub record Shown : Type 0 where
  pub bytes : List ℕ
  pub hits : List CurveHit

abbrev pub nothing : Shown
nothing = record { bytes = []; hits = [] }

abbrev pub refused : ℕ → ℕ → Shown
refused line n = record { bytes = refused_line line n; hits = [] }

abbrev pub crossed : ℕ → Outcome → Shown
crossed line o = record { bytes = hit_lines line 1 o.hits ++ end_line line (tally o); hits = o.hits }

-- what would be shown is not where n is a refusal
abbrev pub unless : ℕ → ℕ → Shown → Shown
unless n line s = cond (eqb n accepted) s (refused line n)

-- what would be the table is not where n is a refusal
abbrev pub stays : ℕ → Table → Table → Table
stays n t next = cond (eqb n accepted) next t

-- of a line that is not refused, as a malformed one always is
abbrev pub taken : Table → ℕ → Option Line → Shown
taken t line (Some (says.Record c)) = nothing
taken t line (Some (says.Query i j depth)) = crossed line (curves_outcome (record_at t i) (record_at t j) depth)
taken t line None = nothing

abbrev pub grown : Table → Option Line → Table
grown t (Some (says.Record c)) = stored t c
grown t (Some (says.Query i j depth)) = t
grown t None = t

-- THE RULE of one line: what it shows, and the table after it
unfoldable pub shown : Table → ℕ → Option Line → Shown
shown t line l = unless (refusal t l) line (taken t line l)

unfoldable pub table_after : Table → Option Line → Table
table_after t l = stays (refusal t l) t (grown t l)
