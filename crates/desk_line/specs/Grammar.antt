-- 01, 'The program arcdesk and its lines': "one record a line, fields parted by one tab, at most 256 bytes without the newline. Numbers are 16 lower-case hex digits of the f64's bits.
-- `S` and four coordinates; `A`, centre x and y, radius, radius_b, rotation, start, end, and three digits 0 or 1 for ccw, closed, ellipse; `X`, two record numbers, depth as one digit."
-- What bytes a line consists of, without a reader.
use Rattle.std.specs.Prelude.{ℕ, ◌≤◌, ◌<◌, ◌≡◌, List, [], ◌∷◌, length, Float}
use Rattle.digits.specs.Decimal.{decimal_digit}
use Rattle.curves.specs.declared.Arc.{Arc}
use Rattle.curves.specs.declared.Curve.TheVariants as curve
use Rattle.desk_fields.specs.Text.{tabbed, Bits, written, mark, RecordNumber}
use Rattle.desk_line.specs.declared.Line.{Line}
use Rattle.desk_line.specs.declared.Line.TheVariants as says

-- the three kinds of line, which begin with S, A and X
pub record SaysSegment (line : List ℕ) (x1 y1 x2 y2 : Float) : Type 0 where
  pub a : Bits x1
  pub b : Bits y1
  pub c : Bits x2
  pub d : Bits y2
  pub text : line ≡ 83 ∷ tabbed (written a ∷ written b ∷ written c ∷ written d ∷ [])

pub record SaysArc (line : List ℕ) (e : Arc) : Type 0 where
  pub x : Bits e.center.x
  pub y : Bits e.center.y
  pub r : Bits e.radius
  pub s : Bits e.radius_b
  pub turn : Bits e.rotation
  pub start : Bits e.start
  pub end : Bits e.end
  pub text : line ≡ 65 ∷ tabbed (written x ∷ written y ∷ written r ∷ written s ∷ written turn ∷ written start ∷ written end ∷ mark e.ccw ∷ mark e.closed ∷ mark e.is_ellipse ∷ [])

pub record SaysQuery (line : List ℕ) (a b depth : ℕ) : Type 0 where
  pub first : RecordNumber a
  pub second : RecordNumber b
  pub digit : depth < 10
  pub text : line ≡ 88 ∷ tabbed (first.digits ∷ second.digits ∷ (decimal_digit depth ∷ []) ∷ [])

unfoldable pub Form : List ℕ → Line → Type 0
Form line (says.Record (curve.Segment x1 y1 x2 y2)) = SaysSegment line x1 y1 x2 y2
Form line (says.Record (curve.Arc e)) = SaysArc line e
Form line (says.Query a b depth) = SaysQuery line a b depth

pub record Says (line : List ℕ) (l : Line) : Type 0 where
  pub short : length line ≤ 256
  pub form : Form line l
