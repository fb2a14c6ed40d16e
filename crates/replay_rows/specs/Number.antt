-- The number of a call: its place in the table of bench/src/bin/samples.rs.
use Rattle.std.specs.Prelude.{ℕ, ◌≡◌, ◌<◌, ◌↔◌, IfOk, IsOk, Result}
use Rattle.replay_rows.specs.declared.call.Call.{Call}
use Rattle.replay_rows.specs.declared.call.Call.TheVariants as call
use Rattle.replay_rows.specs.declared.call.UnknownCall.{UnknownCall}

abbrev pub number_of : Call → ℕ
number_of call.EllipsePoint = 1
number_of call.EllipseTangent = 2
number_of call.ArcPointAt = 3
number_of call.ArcTangentAt = 4
number_of call.ArcStartPos = 5
number_of call.ArcEndPos = 6
number_of call.NormTau = 7
number_of call.ArcParamInSpan = 8
number_of call.ArcRadii = 9
number_of call.ArcThetaOfPos = 0xa
number_of call.ArcParamAtPoint = 0xb
number_of call.PointToSegmentDist = 0xc
number_of call.ProjectOntoSegment = 0xd
number_of call.LineLineIntersection = 0xe
number_of call.IntersectSegments = 0xf
number_of call.IntersectSegmentArc = 0x10
number_of call.IntersectArcs = 0x11
number_of call.Intersect = 0x12
number_of call.Hit = 0x13
number_of call.PointToArcDist = 0x14
number_of call.NearestArcParam = 0x15
number_of call.SvgArcToCenter = 0x16
number_of call.CircumscribedArc = 0x17
number_of call.CircleTangentThrough = 0x18
number_of call.FitEarcTangent = 0x19

-- A number read as a call: the call that has it, and none only where it is 0 or above 25.
pub record IsNumbered (number : ℕ) (r : Result Call UnknownCall) : Type 0 where
  pub found : IfOk r (λ call. number_of call ≡ number)
  pub known : IsOk r ↔ (0 < number) × (number < 26)
