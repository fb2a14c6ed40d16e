-- The room and the buffer have room for every query.
use mathlib.Core.Path.{◌≡◌, refl}
use mathlib.Core.Bool.{Bool, true, false, cond, ◌||◌}
use Prim.Native.Nat.{ℕ, ◌^◌, ◌≤◌}
use native.Mathlib.Omega.{arith}
use lib.ListN.{length}
use lib.Pow.{pow_mono}
use Rattle.curves.specs.declared.Arc.{Arc}
use Rattle.arc.specs.Frame.{arc_radii}
use Rattle.hunt_bracket.specs.Frame.{frame}
use Rattle.hunt.specs.Cells.{cells, span, closing_cell}
use Rattle.hunt.specs.Hunt.{early, hunted}
use Rattle.laws.specs.Part.{part}
use Rattle.hunt.proofs.Outcomes.{scanned_small}
use Rattle.hunt.proofs.Hunts.{hunted-early, hunted_on}
use Rattle.checks.specs.Refusal.{deepest}
use Rattle.hits.specs.Need.{need}
use Rattle.hits.specs.declared.CurveHit.{CurveHit}
use Rattle.hits.specs.declared.UpToTwo.{UpToTwo}
use Rattle.hits.specs.Listed.{listed, one, exchanged}
use Rattle.segments.specs.Segments.{intersect_segments}
use Rattle.crossing.specs.SegmentArc.{intersect_segment_arc}
use Rattle.crossing.specs.Circles.{intersect_circle_circle}
use Rattle.curves.specs.declared.Curve.{Curve}
use Rattle.curves.specs.declared.Curve.TheVariants as curve
use Rattle.curves.specs.At.{at}
use Rattle.calls_curves.specs.Curves.{curves_hits, curves_outcome}
use Rattle.calls_crossings.specs.Need.{closed_hits, pair_hits}
use Rattle.calls_crossings.specs.Pairs.{pair_outcome}
use Rattle.calls_crossings.proofs.Rooms.{listed-two, pair_hunted, pair_closed}
use Rattle.desk.specs.Answer.{most_hits, room_need}

cells-most : (depth : ℕ) → depth ≤ deepest → cells depth ≤ most_hits
cells-most depth h = let p : 2 ^ depth ≤ 2 ^ deepest = pow_mono h in omega arith

pair_need : (a b : Arc) (depth : ℕ) → depth ≤ deepest → pair_hits a b depth ≤ most_hits
unfolding pair_hits
pair_need a b depth h = go (a.is_ellipse || b.is_ellipse)
  where
    go : (e : Bool) → cond e (cells depth) closed_hits ≤ most_hits
    go true = cells-most depth h
    go false = omega arith

curves_need : (a b : Curve) (depth : ℕ) → depth ≤ deepest → curves_hits a b depth ≤ most_hits
curves_need (curve.Segment x1 y1 x2 y2) (curve.Segment u1 v1 u2 v2) depth h = omega arith
curves_need (curve.Segment x1 y1 x2 y2) (curve.Arc b) depth h = omega arith
curves_need (curve.Arc a) (curve.Segment u1 v1 u2 v2) depth h = omega arith
curves_need (curve.Arc a) (curve.Arc b) depth h = pair_need a b depth h

pub need-most : (a b : Curve) (depth : ℕ) → depth ≤ deepest → need (curves_hits a b depth) ≤ room_need
need-most a b depth h = omega (arith, curves_need a b depth h)

hunted-most : (a b : Arc) (depth : ℕ) → depth ≤ deepest → length (hunted a b depth).hits ≤ most_hits
hunted-most a b depth h = go (early (arc_radii b) (span a)) refl
  where
    go : (e : Bool) → early (arc_radii b) (span a) ≡ e → length (hunted a b depth).hits ≤ most_hits
    go true i = rw (hunted-early a b depth i) (omega arith)
    go false i =
        let few = cells-most depth h in
        let s = scanned_small (frame a b) a.start (part (span a) (cells depth)) (closing_cell depth) (cells depth) (omega arith) in
        rw (hunted_on a b depth i) (omega (arith, s.2))

few : (c : UpToTwo CurveHit) → length (listed c) ≤ most_hits
few c = omega (arith, listed-two c)

pair_most : (a b : Arc) (depth : ℕ) → depth ≤ deepest → length (pair_outcome a b depth).hits ≤ most_hits
pair_most a b depth h = go (a.is_ellipse || b.is_ellipse) refl
  where
    go : (e : Bool) → a.is_ellipse || b.is_ellipse ≡ e → length (pair_outcome a b depth).hits ≤ most_hits
    go true i = rw (pair_hunted a b depth i) (hunted-most a b depth h)
    go false i = rw (pair_closed a b depth i) (few (intersect_circle_circle a b))

pub hits_most : (a b : Curve) (depth : ℕ) → depth ≤ deepest → length (curves_outcome a b depth).hits ≤ most_hits
hits_most (curve.Segment x1 y1 x2 y2) (curve.Segment u1 v1 u2 v2) depth h = few (one (intersect_segments (at x1 y1) (at x2 y2) (at u1 v1) (at u2 v2)))
hits_most (curve.Segment x1 y1 x2 y2) (curve.Arc b) depth h = few (intersect_segment_arc (at x1 y1) (at x2 y2) b)
hits_most (curve.Arc a) (curve.Segment u1 v1 u2 v2) depth h = few (exchanged (intersect_segment_arc (at u1 v1) (at u2 v2) a))
hits_most (curve.Arc a) (curve.Arc b) depth h = pair_most a b depth h
