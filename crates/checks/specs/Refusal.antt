-- 01, 'Numbers taken and numbers given back', the table of refusals: 1 "some number is NaN or infinite", 2 "some number is beyond its limit", 3 "depth above 3 (arc pairs, and every
-- query line)", 4 "the lent room is shorter than the need", 5 "the Rust answers `None` in arc conversion, three-point arc, tangent circle or conic fit", 6 "`arc_param_in_span` answers
-- `None`", and of `arcdesk` 7 "malformed line", 8 "record number not in the table", 9 "a 65th record". "A call tests 1 over all its numbers (not those already in the lent room), then
-- 2, 3, 4, then the rest."
use Rattle.std.specs.Prelude.{ℕ, Bool, false, cond, List, eqb, ltb, Result, Ok, Err, ⊤}
use Rattle.checks.specs.declared.Faults.{Faults}
use Rattle.checks.specs.declared.Refusal.{Refusal}
use Rattle.checks.specs.declared.Refusal.TheVariants.{NotANumber, BeyondLimit, TooDeep, RoomTooShort, Degenerate, OutsideSpan, MalformedLine, NoSuchRecord, TableFull}
use Rattle.checks.specs.Given.{Given, tested}

-- ---- the names of the numbers; `accepted` is none of them
abbrev pub accepted : ℕ
accepted = 0

abbrev pub not_a_number : ℕ
not_a_number = 1

abbrev pub beyond_limit : ℕ
beyond_limit = 2

abbrev pub too_deep : ℕ
too_deep = 3

abbrev pub room_too_short : ℕ
room_too_short = 4

abbrev pub degenerate : ℕ
degenerate = 5

abbrev pub outside_span : ℕ
outside_span = 6

abbrev pub malformed_line : ℕ
malformed_line = 7

abbrev pub no_such_record : ℕ
no_such_record = 8

abbrev pub table_full : ℕ
table_full = 9

-- ---- what the code's names stand for
abbrev pub number_of : Refusal → ℕ
number_of NotANumber = not_a_number
number_of BeyondLimit = beyond_limit
number_of TooDeep = too_deep
number_of RoomTooShort = room_too_short
number_of Degenerate = degenerate
number_of OutsideSpan = outside_span
number_of MalformedLine = malformed_line
number_of NoSuchRecord = no_such_record
number_of TableFull = table_full

abbrev pub refusal_told : Result ⊤ Refusal → ℕ
refusal_told (Ok _) = accepted
refusal_told (Err r) = number_of r

-- ---- "depth above 3"
abbrev pub deepest : ℕ
deepest = 3

abbrev pub deep : ℕ → Bool
deep depth = ltb deepest depth

-- ---- the order
-- by the faults of the numbers, whether the depth is above its limit, and whether a room is too short: a call says both by its own limit and its own rooms
unfoldable pub refusal : Faults → Bool → Bool → ℕ
refusal f deep short = cond f.unreal not_a_number (cond f.beyond beyond_limit (cond deep too_deep (cond short room_too_short accepted)))

abbrev pub unfaulted : Faults
unfaulted = record { unreal = false; beyond = false }

-- THE RULE, of the numbers that a call is given
abbrev pub refusal_of : List Given → Bool → Bool → ℕ
refusal_of gs deep short = refusal (tested unfaulted gs) deep short

-- of a call with neither depth nor room
abbrev pub numbers_refusal : List Given → ℕ
numbers_refusal gs = refusal_of gs false false

-- "then the rest": a later number counts where no earlier one is given
abbrev pub or_later : ℕ → ℕ → ℕ
or_later earlier later = cond (eqb earlier accepted) later earlier
