use Rattle.bcs_decode_source.proofs.Prelude.{◌≡◌, ℕ, ◌+◌, ◌*◌, max, length, map, drop, content, field_shapes, payload_shape, shape_of, formats_shapes, field_of, payload_of, container_of, levels, shapes_levels, Stands, last_bytes, AlongMap, container_value, read, Ready, IsSame}
use Rattle.bcs_decode_source.proofs.Readers.{Onward}
use Rattle.bcs_decode_source.proofs.StreamedRows.{ItemsSoFar, EachSoFar, PairsSoFar}
use Rattle.bcs_decode_source.proofs.+streaming.Given as goal

-- a format in a registry has at most 33 levels, including those of its container
abbrev work : ℕ → ℕ → ℕ
work d n = 10 * (35 * d + n)

abbrev pub decreases-values::value : goal.decreases-values::value
decreases-values::value g l = work l.depth (levels (shape_of l.format.now)) + 4

abbrev pub decreases-values::option : goal.decreases-values::option
decreases-values::option g l = work l.depth (levels (shape_of l.part.now)) + 5

abbrev pub decreases-rows::items : goal.decreases-rows::items
decreases-rows::items g l = work l.depth (levels (shape_of l.element.now)) + 6

abbrev pub decreases-rows::row : goal.decreases-rows::row
decreases-rows::row g l = work l.depth (levels (shape_of l.element.now)) + 5

abbrev pub decreases-rows::tuple : goal.decreases-rows::tuple
decreases-rows::tuple g l = work l.depth (shapes_levels (formats_shapes l.formats.now)) + 6

abbrev pub decreases-rows::parts : goal.decreases-rows::parts
decreases-rows::parts g l = work l.depth (shapes_levels (formats_shapes l.formats.now)) + 5

abbrev pub decreases-containers::structure : goal.decreases-containers::structure
decreases-containers::structure g l = work l.depth (shapes_levels (field_shapes (map field_of l.fields.now))) + 6

abbrev pub decreases-containers::each_field : goal.decreases-containers::each_field
decreases-containers::each_field g l = work l.depth (shapes_levels (field_shapes (map field_of l.fields.now))) + 5

abbrev pub decreases-containers::named : goal.decreases-containers::named
decreases-containers::named g l = work l.depth 0 + 3

abbrev pub decreases-containers::container : goal.decreases-containers::container
decreases-containers::container g l = work l.depth 0 + 2

abbrev pub decreases-rows::containers : goal.decreases-rows::containers
decreases-rows::containers g l = work l.depth 0 + 4

abbrev pub decreases-containers::content : goal.decreases-containers::content
decreases-containers::content g l = work l.depth 34

abbrev pub decreases-containers::payload : goal.decreases-containers::payload
decreases-containers::payload g l = work l.depth (levels (payload_shape (payload_of l.payload.now))) + 6

abbrev pub decreases-maps::pairs : goal.decreases-maps::pairs
decreases-maps::pairs g l = work l.depth (max (levels (shape_of l.key.now)) (levels (shape_of l.part.now))) + 7

abbrev pub decreases-maps::each_entry : goal.decreases-maps::each_entry
decreases-maps::each_entry g l = work l.depth (max (levels (shape_of l.key.now)) (levels (shape_of l.part.now))) + 6

abbrev pub decreases-maps::next_key : goal.decreases-maps::next_key
decreases-maps::next_key g l = work l.depth (levels (shape_of l.key.now)) + 5

abbrev pub invariant-rows::row-loop : goal.invariant-rows::row-loop
invariant-rows::row-loop g l = record {
  on : Onward g.S.ByteSource.content g.S.ByteSource.is_failed g.S.ByteSource.allowance l.initial.reader l.reader;
  sees : ItemsSoFar (read l.initial.reader.registry.now l.depth (shape_of l.element)) l.count l.counter l.found.items (g.S.ByteSource.content l.initial.reader.source.now) (g.S.ByteSource.content l.reader.source.now) l.initial.reader.at.now l.reader.at.now;
}

abbrev pub invariant-rows::containers-loop : goal.invariant-rows::containers-loop
invariant-rows::containers-loop g l = record {
  on : Onward g.S.ByteSource.content g.S.ByteSource.is_failed g.S.ByteSource.allowance l.initial.reader l.reader;
  sees : ItemsSoFar (container_value l.initial.reader.registry.now l.depth (content (container_of l.element))) l.count l.counter l.found.items (g.S.ByteSource.content l.initial.reader.source.now) (g.S.ByteSource.content l.reader.source.now) l.initial.reader.at.now l.reader.at.now;
}

abbrev pub invariant-rows::parts-loop-format : goal.invariant-rows::parts-loop-format
invariant-rows::parts-loop-format g l = record {
  on : Onward g.S.ByteSource.content g.S.ByteSource.is_failed g.S.ByteSource.allowance l.initial.reader l.reader;
  sees : EachSoFar l.initial.reader.registry.now l.depth (formats_shapes l.formats) (formats_shapes (drop l.format-index l.formats)) l.found.items (g.S.ByteSource.content l.initial.reader.source.now) (g.S.ByteSource.content l.reader.source.now) l.initial.reader.at.now l.reader.at.now;
}

abbrev pub invariant-containers::each_field-loop-field : goal.invariant-containers::each_field-loop-field
invariant-containers::each_field-loop-field g l = record {
  on : Onward g.S.ByteSource.content g.S.ByteSource.is_failed g.S.ByteSource.allowance l.initial.reader l.reader;
  sees : EachSoFar l.initial.reader.registry.now l.depth (field_shapes (map field_of l.fields)) (field_shapes (map field_of (drop l.field-index l.fields))) l.found.items (g.S.ByteSource.content l.initial.reader.source.now) (g.S.ByteSource.content l.reader.source.now) l.initial.reader.at.now l.reader.at.now;
}

abbrev pub invariant-maps::each_entry-loop : goal.invariant-maps::each_entry-loop
invariant-maps::each_entry-loop g l = record {
  ready : Ready g.S.ByteSource.is_failed g.S.ByteSource.allowance l.reader;
  same : IsSame l.initial.reader l.reader;
  begun : l.keys.begun ≡ length l.initial.reader.at.now.kept.items;
  stands : Stands l.keys.last l.keys.begun (length l.reader.at.now.kept.items);
  goes : AlongMap (length l.initial.reader.at.now.kept.items) (g.S.ByteSource.content l.initial.reader.source.now) l.initial.reader.at.now (g.S.ByteSource.content l.reader.source.now) l.reader.at.now;
  sees : PairsSoFar (read l.initial.reader.registry.now l.depth (shape_of l.key)) (read l.initial.reader.registry.now l.depth (shape_of l.part)) l.count l.counter (last_bytes l.keys.last l.reader.at.now.kept.items) l.entries.found.items (g.S.ByteSource.content l.initial.reader.source.now) (g.S.ByteSource.content l.reader.source.now) l.initial.reader.at.now l.reader.at.now;
}
