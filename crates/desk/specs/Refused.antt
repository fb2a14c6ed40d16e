-- 01, 'The program arcdesk and its lines': "A line is tested for 7, then 9 or 8, then 1, 2, 3." The table of refusals: 7 "malformed line", 8 "record number not in the table",
-- 9 "a 65th record", 3 "depth above 3 (arc pairs, and every query line)". The room has the need of every query, so that 4 is no refusal of a line: no room is short here.
use Rattle.std.specs.Prelude.{ℕ, false, cond, ◌&&◌, ◌++◌, ltb, length, Option, Some, None}
use Rattle.curves.specs.declared.Curve.{Curve}
use Rattle.checks.specs.Given.{curve_numbers}
use Rattle.checks.specs.Refusal.{malformed_line, no_such_record, table_full, deep, refusal_of, numbers_refusal}
use Rattle.desk_line.specs.declared.Line.{Line}
use Rattle.desk_line.specs.declared.Line.TheVariants as says
use Rattle.desk.specs.declared.Table.{Table}
use Rattle.desk.specs.Table.{most, held, record_at}

-- an `S` or an `A`
unfoldable pub record_refusal : Table → Curve → ℕ
record_refusal t c = cond (ltb (length t) most) (numbers_refusal (curve_numbers c)) table_full

-- the numbers of two records, and the depth
unfoldable pub pair_refusal : Curve → Curve → ℕ → ℕ
pair_refusal a b depth = refusal_of (curve_numbers a ++ curve_numbers b) (deep depth) false

-- an `X`
unfoldable pub query_refusal : Table → ℕ → ℕ → ℕ → ℕ
query_refusal t i j depth = cond (held t i && held t j) (pair_refusal (record_at t i) (record_at t j) depth) no_such_record

-- `accepted` for none
abbrev pub refusal : Table → Option Line → ℕ
refusal t (Some (says.Record c)) = record_refusal t c
refusal t (Some (says.Query i j depth)) = query_refusal t i j depth
refusal t None = malformed_line
