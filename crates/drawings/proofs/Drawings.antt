-- P1 to P9: each row's numbers are those that the definitions give, worked out by the checker itself.
use mathlib.Core.Path.{◌≡◌, refl}
use mathlib.Core.List.{map}
use lib.Ieee.{of_bits, to_bits, of_fields, add, sub, mul, div, rem, neg, lt, le, eq, sum, round, odd, units, size, span, climb, of_int, to_unsigned, is_nan}
use Rattle.laws.specs.Size.{abs}
use Rattle.scalar.specs.Clamp.{clamp}
use Rattle.root.specs.SquareRoot.{square_root, root_units}
use Rattle.root.specs.WholeRoot.{digit, floor_root, nearest_root}
use Rattle.fixed.specs.High.{high}
use Rattle.fixed.specs.Size.{size_of}
use Rattle.sine.specs.Angle as angle
use Rattle.sine.specs.Rule.{sine, cosine}
use Rattle.arctan.specs.Rows.{row_at, row_from, plain, raised}
use Rattle.arctan.specs.Rule.{arctangent, ratio, edge_of, edge_size, angle_of, float_of, arc_of, units_at, place_of, series_at, upper_steps, last_step, fine_step, rough_step, rough}
use Rattle.arctan_table.specs.Table.{table, coefs_at}
use Rattle.arc.specs.Span.{norm_tau, within, arc_param_in_span}
use Rattle.arc.specs.Frame.{arc_radii}
use Rattle.rooms.specs.Laid.{flat}
use Rattle.segments.specs.Segments.{intersect_segments, on_segment}
use Rattle.crossing.specs.SegmentArc.{intersect_segment_arc, segment_hit, unit_roots}
use Rattle.crossing.specs.Circles.{intersect_circle_circle, candidates, candidate, half_chord}
use Rattle.root.specs.Norm.{norm}
use Rattle.calls_crossings.specs.Pairs.{pair_outcome}
use Rattle.drawings.specs.Drawing.{found}
use Rattle.drawings.specs.Table.{drawings}

pub drawings-found : map (λ d. found d.call) drawings ≡ map (λ d. d.gives) drawings
unfolding found drawings norm flat pair_outcome intersect_segments on_segment
    intersect_segment_arc segment_hit unit_roots intersect_circle_circle candidates candidate half_chord arc_param_in_span norm_tau within arc_radii abs
    clamp square_root root_units digit floor_root nearest_root sine cosine angle.tau angle.units arctangent ratio edge_of edge_size angle_of
    float_of arc_of units_at place_of series_at upper_steps last_step fine_step rough_step rough high size_of row_at row_from plain raised table coefs_at
    of_bits to_bits of_fields add sub mul div rem neg lt le eq sum round odd units size span climb of_int to_unsigned is_nan
drawings-found = refl
