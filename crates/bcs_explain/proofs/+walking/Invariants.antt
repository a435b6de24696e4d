use Rattle.bcs_explain.proofs.Prelude.{◌≡◌, ℕ, ◌+◌, ◌-◌, ◌*◌, ◌<◌, ◌^◌, None, length, max, map, drop, field_shapes, payload_shape, shape_of, formats_shapes, field_of, payload_of, levels, shapes_levels, items_here, pairs_here, skipping, key_bytes, Onward, skip, each, StaysCovered}
use Rattle.bcs_explain.proofs.+walking.Given as goal

-- a measure of the work left: a format in a registry has at most 33 levels, including those of its container
abbrev work : ℕ → ℕ → ℕ
work d n = 10 * (35 * d + n)

abbrev pub decreases-walking::value : goal.decreases-walking::value
decreases-walking::value g l = work l.depth (levels (shape_of l.format.now)) + 5

abbrev pub decreases-walking::option : goal.decreases-walking::option
decreases-walking::option g l = work l.depth (levels (shape_of l.content.now)) + 8

abbrev pub decreases-sequences::list : goal.decreases-sequences::list
decreases-sequences::list g l = work l.depth (levels (shape_of l.element.now)) + 8

abbrev pub decreases-sequences::array : goal.decreases-sequences::array
decreases-sequences::array g l = work l.depth (levels (shape_of l.run.element.now)) + 8

abbrev pub decreases-maps::map : goal.decreases-maps::map
decreases-maps::map g l = work l.depth (max (levels (shape_of l.entry.key.now)) (levels (shape_of l.entry.content.now))) + 8

abbrev pub decreases-sequences::elements : goal.decreases-sequences::elements
decreases-sequences::elements g l = work l.depth (levels (shape_of l.run.element.now)) + 7

abbrev pub decreases-sequences::elements_from : goal.decreases-sequences::elements_from
decreases-sequences::elements_from g l = work l.depth (levels (shape_of l.run.element.now)) + 6

abbrev pub decreases-maps::entries : goal.decreases-maps::entries
decreases-maps::entries g l = work l.depth (max (levels (shape_of l.run.key.now)) (levels (shape_of l.run.content.now))) + 7

abbrev pub decreases-sequences::tuple : goal.decreases-sequences::tuple
decreases-sequences::tuple g l = work l.depth (shapes_levels (formats_shapes l.formats.now)) + 6

abbrev pub decreases-containers::structure : goal.decreases-containers::structure
decreases-containers::structure g l = work l.depth (shapes_levels (field_shapes (map field_of l.fields.now))) + 6

abbrev pub decreases-containers::named : goal.decreases-containers::named
decreases-containers::named g l = work l.depth 0 + 4

abbrev pub decreases-containers::content : goal.decreases-containers::content
decreases-containers::content g l = work l.depth 34

abbrev pub decreases-containers::payload : goal.decreases-containers::payload
decreases-containers::payload g l = work l.depth (levels (payload_shape (payload_of l.payload.now))) + 7

abbrev pub invariant-sequences::elements_from-loop-i : goal.invariant-sequences::elements_from-loop-i
invariant-sequences::elements_from-loop-i g l = record {
  room : l.cursor.place + length l.cursor.rest.now < 2 ^ 64;
  onward : Onward l.initial.cursor l.cursor;
  whole : items_here skipping (skip l.registry l.depth (shape_of l.run.element.now)) (l.run.count - l.run.first) l.initial.cursor.place l.initial.cursor.nodes l.initial.cursor.rest.now
      ≡ items_here skipping (skip l.registry l.depth (shape_of l.run.element.now)) (l.run.count - l.i) l.cursor.place l.cursor.nodes l.cursor.rest.now;
  covers : StaysCovered g.T.Listener.heard l.initial.cursor l.initial.out l.cursor l.out;
}

abbrev pub invariant-maps::entries-loop-i : goal.invariant-maps::entries-loop-i
invariant-maps::entries-loop-i g l = record {
  room : l.cursor.place + length l.cursor.rest.now < 2 ^ 64;
  onward : Onward l.initial.cursor l.cursor;
  whole : pairs_here skipping (skip l.registry l.depth (shape_of l.run.key.now)) (skip l.registry l.depth (shape_of l.run.content.now)) None l.run.count l.initial.cursor.place l.initial.cursor.nodes l.initial.cursor.rest.now
      ≡ pairs_here skipping (skip l.registry l.depth (shape_of l.run.key.now)) (skip l.registry l.depth (shape_of l.run.content.now)) (key_bytes l.last) (l.run.count - l.i) l.cursor.place l.cursor.nodes l.cursor.rest.now;
  covers : StaysCovered g.T.Listener.heard l.initial.cursor l.initial.out l.cursor l.out;
}

abbrev pub invariant-sequences::tuple-loop-i : goal.invariant-sequences::tuple-loop-i
invariant-sequences::tuple-loop-i g l = record {
  room : l.cursor.place + length l.cursor.rest.now < 2 ^ 64;
  onward : Onward l.initial.cursor l.cursor;
  whole : each l.registry l.depth (formats_shapes l.formats) l.initial.cursor.place l.initial.cursor.nodes l.initial.cursor.rest.now
      ≡ each l.registry l.depth (formats_shapes (drop l.i l.formats)) l.cursor.place l.cursor.nodes l.cursor.rest.now;
  covers : StaysCovered g.T.Listener.heard l.initial.cursor l.initial.out l.cursor l.out;
}

abbrev pub invariant-containers::structure-loop-i : goal.invariant-containers::structure-loop-i
invariant-containers::structure-loop-i g l = record {
  room : l.cursor.place + length l.cursor.rest.now < 2 ^ 64;
  onward : Onward l.initial.cursor l.cursor;
  whole : each l.registry l.depth (field_shapes (map field_of l.fields)) l.initial.cursor.place l.initial.cursor.nodes l.initial.cursor.rest.now
      ≡ each l.registry l.depth (field_shapes (map field_of (drop l.i l.fields))) l.cursor.place l.cursor.nodes l.cursor.rest.now;
  covers : StaysCovered g.T.Listener.heard l.initial.cursor l.initial.out l.cursor l.out;
}
