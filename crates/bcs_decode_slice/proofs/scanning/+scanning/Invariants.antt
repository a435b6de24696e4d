use Rattle.bcs_decode_slice.proofs.Prelude.{◌≡◌, ℕ, List, ◌+◌, ◌-◌, ◌*◌, ◌<◌, ◌^◌, None, length, max, map, drop, content, content_at, field_shapes, layout_shape, name_shape, shape_of, formats_shapes, field_of, container_of, levels, shapes_levels, items_here, pairs_here, skipping, key_bytes, Onward, skip}
use Rattle.bcs_decode_spec.proofs.PartSteps.{each}
use Rattle.bcs_decode_slice.proofs.scanning.+scanning.Given as goal

-- a format in a registry has at most 33 levels, including those of its container
abbrev work : ℕ → ℕ → ℕ
work d n = 10 * (35 * d + n)

abbrev pub decreases-value : goal.decreases-value
decreases-value l = work l.depth (levels (shape_of l.format.now)) + 5

abbrev pub decreases-elements : goal.decreases-elements
decreases-elements l = work l.depth (levels (shape_of l.element.now)) + 6

abbrev pub decreases-entries : goal.decreases-entries
decreases-entries l = work l.depth (max (levels (shape_of l.key.now)) (levels (shape_of l.content.now))) + 7

abbrev pub decreases-next_key : goal.decreases-next_key
decreases-next_key l = work l.depth (levels (shape_of l.key.now)) + 6

abbrev pub decreases-tuple : goal.decreases-tuple
decreases-tuple l = work l.depth (shapes_levels (formats_shapes l.formats.now)) + 6

abbrev pub decreases-structure : goal.decreases-structure
decreases-structure l = work l.depth (shapes_levels (field_shapes (map field_of l.fields.now))) + 6

abbrev pub decreases-named : goal.decreases-named
decreases-named l = work l.depth 0 + 4

abbrev pub decreases-containers : goal.decreases-containers
decreases-containers l = work l.depth 0 + 4

abbrev pub decreases-content : goal.decreases-content
decreases-content l = work l.depth 34

abbrev pub decreases-laid : goal.decreases-laid
decreases-laid l = work l.depth (levels (layout_shape l.layout)) + 7

abbrev pub invariant-elements-loop : goal.invariant-elements-loop
invariant-elements-loop l = record {
  room : l.cursor.place + length l.cursor.rest.now < 2 ^ 64;
  onward : Onward l.fn.cursor l.cursor;
  whole : items_here skipping (skip l.registry l.depth (shape_of l.element)) l.count l.fn.cursor.place l.fn.cursor.nodes l.fn.cursor.rest.now
      ≡ items_here skipping (skip l.registry l.depth (shape_of l.element)) (l.count - l.counter) l.cursor.place l.cursor.nodes l.cursor.rest.now;
}

abbrev pub invariant-containers-loop : goal.invariant-containers-loop
invariant-containers-loop l = record {
  room : l.cursor.place + length l.cursor.rest.now < 2 ^ 64;
  onward : Onward l.initial.cursor l.cursor;
  whole : (name : List ℕ) → content_at name l.registry ≡ content (container_of l.container)
      → items_here skipping (skip l.registry l.depth (name_shape name)) l.count l.initial.cursor.place l.initial.cursor.nodes l.initial.cursor.rest.now
      ≡ items_here skipping (skip l.registry l.depth (name_shape name)) (l.count - l.counter) l.cursor.place l.cursor.nodes l.cursor.rest.now;
}

abbrev pub invariant-entries-loop : goal.invariant-entries-loop
invariant-entries-loop l = record {
  room : l.cursor.place + length l.cursor.rest.now < 2 ^ 64;
  onward : Onward l.initial.cursor l.cursor;
  whole : pairs_here skipping (skip l.registry l.depth (shape_of l.key)) (skip l.registry l.depth (shape_of l.content)) None l.count l.initial.cursor.place l.initial.cursor.nodes l.initial.cursor.rest.now
      ≡ pairs_here skipping (skip l.registry l.depth (shape_of l.key)) (skip l.registry l.depth (shape_of l.content)) (key_bytes l.last) (l.count - l.counter) l.cursor.place l.cursor.nodes l.cursor.rest.now;
}

abbrev pub invariant-tuple-loop-format : goal.invariant-tuple-loop-format
invariant-tuple-loop-format l = record {
  room : l.cursor.place + length l.cursor.rest.now < 2 ^ 64;
  onward : Onward l.initial.cursor l.cursor;
  whole : each l.registry l.depth (formats_shapes l.formats) l.initial.cursor.place l.initial.cursor.nodes l.initial.cursor.rest.now
      ≡ each l.registry l.depth (formats_shapes (drop l.format-index l.formats)) l.cursor.place l.cursor.nodes l.cursor.rest.now;
}

abbrev pub invariant-structure-loop-field : goal.invariant-structure-loop-field
invariant-structure-loop-field l = record {
  room : l.cursor.place + length l.cursor.rest.now < 2 ^ 64;
  onward : Onward l.initial.cursor l.cursor;
  whole : each l.registry l.depth (field_shapes (map field_of l.fields)) l.initial.cursor.place l.initial.cursor.nodes l.initial.cursor.rest.now
      ≡ each l.registry l.depth (field_shapes (map field_of (drop l.field-index l.fields))) l.cursor.place l.cursor.nodes l.cursor.rest.now;
}
