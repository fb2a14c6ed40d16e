-- 01, 'Numbers taken and numbers given back': "A hit takes four f64". "The need is 4 numbers for two segments, 8 for segment and arc or two circles, 1,024 times 2^depth where an
-- ellipse takes part in an arc pair": room for one hit, for two, and for one in each cell. The table of refusals: 4 "the lent room is shorter than the need".
use Rattle.std.specs.Prelude.{ℕ, ◌*◌, Bool, List, ltb, length, Float}
use Rattle.hits.specs.declared.Lengths.{Lengths}
use Rattle.hits.specs.Hit.{hit_size}

-- the numbers that so many hits take
abbrev pub need : ℕ → ℕ
need hits = hit_size * hits

-- how long what is lent is
abbrev pub lengths : List Float → Lengths
lengths room = record { room = length room }

-- whether what is lent is too short for so many hits
unfoldable pub short : ℕ → Lengths → Bool
short hits lent = ltb lent.room (need hits)
