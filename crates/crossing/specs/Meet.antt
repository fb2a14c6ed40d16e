-- 000: `if let (Some(ta), Some(tb)) = (arc_param_in_span(a, ..), arc_param_in_span(b, ..)) { out.push(CurveHit { t_a: ta, t_b: tb, pos }) }`.
use Rattle.std.specs.Prelude.{Option, Some, None, Float}
use Rattle.curves.specs.declared.Point.{Point}
use Rattle.hits.specs.Hit.{hit_of}
use Rattle.hits.specs.declared.CurveHit.{CurveHit}

abbrev pub meet : Option Float → Option Float → Point → Option CurveHit
meet (Some ta) (Some tb) pos = Some (hit_of ta tb pos)
meet (Some ta) None pos = None
meet None b pos = None
