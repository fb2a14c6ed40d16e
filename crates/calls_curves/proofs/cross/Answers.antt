-- `calls_curves::cross` meets its contract, case by case.
use Rattle.calls_crossings.proofs.Rooms.{one-fits, two_fit}
use Rattle.calls_curves.proofs.cross.Goals as goal

pub closed-requires : goal.closed-requires
closed-requires c =
    rw c.one.ensures (one-fits c.intersect_segments-c.result _ (rw (c.in-Segment.is, c.in-Segment-b.is) at c.requires.1))

pub closed-requires-in-Arc-b : goal.closed-requires-in-Arc-b
closed-requires-in-Arc-b c =
    two_fit c.intersect_segment_arc.result _ (rw (c.in-Segment.is, c.in-Arc-b.is) at c.requires.1)

pub closed-requires-in-Segment-b-2 : goal.closed-requires-in-Segment-b-2
closed-requires-in-Segment-b-2 c =
    two_fit c.exchanged.result _ (rw (c.in-Arc.is, c.in-Segment-b-2.is) at c.requires.1)

pub pair-requires : goal.pair-requires
pair-requires c =
    (c.requires.0, rw (c.in-Arc.is, c.in-Arc-b-2.is) at c.requires.1)

pub returns-in-Segment-b : goal.returns-in-Segment-b
returns-in-Segment-b c =
    rw (c.in-Segment.is, c.in-Segment-b.is)
    (rw (c.one.ensures, c.intersect_segments-c.ensures, c.at-in-Segment-b-3.ensures, c.at-in-Segment-b-2.ensures, c.at-in-Segment-b.ensures, c.at.ensures) at c.closed.ensures)

pub returns-in-Arc-b : goal.returns-in-Arc-b
returns-in-Arc-b c =
    rw (c.in-Segment.is, c.in-Arc-b.is)
    (rw (c.intersect_segment_arc.ensures, c.at-in-Arc-b-2.ensures, c.at-in-Arc-b.ensures) at c.closed-in-Arc-b.ensures)

pub returns-in-Segment-b-2 : goal.returns-in-Segment-b-2
returns-in-Segment-b-2 c =
    rw (c.in-Arc.is, c.in-Segment-b-2.is)
    (rw (c.exchanged.ensures, c.intersect_segment_arc-c.ensures, c.at-in-Segment-b-2-3.ensures, c.at-in-Segment-b-2-2.ensures) at c.closed-in-Segment-b-2.ensures)

pub returns-in-Arc-b-2 : goal.returns-in-Arc-b-2
returns-in-Arc-b-2 c =
    rw (c.in-Arc.is, c.in-Arc-b-2.is) c.pair.ensures
