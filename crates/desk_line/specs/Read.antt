-- 01, 'The program arcdesk and its lines': "A record number that begins with 0 or a line above 256 bytes is malformed", "an empty line is malformed". A line, read by its first byte: none
-- where it is malformed.
use Rattle.std.specs.Prelude.{ℕ, cond, List, ltb, eqb, length, Option, Some, None}
use Rattle.curves.specs.declared.Curve.TheVariants as curve
use Rattle.desk_line.specs.declared.Line.{Line}
use Rattle.desk_line.specs.declared.Line.TheVariants as says
use Rattle.desk_fields.specs.Field.{◌>>=◌, byte_of, number_of, digit_of, mark_of, record_of, end_of}

unfoldable pub segment_of : List ℕ → Option Line
segment_of line = do
  (x1, a) ← number_of line
  (y1, b) ← number_of a
  (x2, c) ← number_of b
  (y2, d) ← number_of c
  _ ← end_of d
  Some (says.Record (curve.Segment x1 y1 x2 y2))

unfoldable pub arc_of : List ℕ → Option Line
arc_of line = do
  (x, a) ← number_of line
  (y, b) ← number_of a
  (radius, c) ← number_of b
  (radius_b, d) ← number_of c
  (rotation, e) ← number_of d
  (start, f) ← number_of e
  (end, g) ← number_of f
  (ccw, h) ← mark_of g
  (closed, i) ← mark_of h
  (ellipse, j) ← mark_of i
  _ ← end_of j
  Some (says.Record (curve.Arc (record { center = record { x = x; y = y }; radius = radius; radius_b = radius_b; rotation = rotation; start = start; end = end; ccw = ccw; closed = closed; is_ellipse = ellipse })))

unfoldable pub query_of : List ℕ → Option Line
query_of line = do
  (first, a) ← record_of line
  (second, b) ← record_of a
  (depth, c) ← digit_of b
  _ ← end_of c
  Some (says.Query first second depth)

unfoldable pub read_line : List ℕ → Option Line
read_line line =
    cond (ltb 256 (length line)) None
    (byte_of line >>= λ (kind, rest).
    cond (eqb kind 83) (segment_of rest)
    (cond (eqb kind 65) (arc_of rest)
    (cond (eqb kind 88) (query_of rest) None)))
