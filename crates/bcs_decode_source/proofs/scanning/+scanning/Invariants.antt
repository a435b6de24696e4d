use Rattle.bcs_decode_source.proofs.Prelude.{◌≡◌, ℕ, ◌+◌, ◌-◌, ◌*◌, max, length, map, drop, None, field_shapes, payload_shape, tuple_shape, shape_of, formats_shapes, field_of, payload_of, levels, shapes_levels, items_here, pairs_here, skipping, skip, each, Stands, last_bytes, AlongMap, Ready, IsSame}
use Rattle.bcs_decode_source.proofs.Leading.{Leads, LeadsTo}
use Rattle.bcs_decode_source.proofs.scanning.+scanning.Given as goal

-- a format in a registry has at most 33 levels, including those of its container
abbrev work : ℕ → ℕ → ℕ
work d n = 10 * (35 * d + n)

abbrev pub decreases-values::value : goal.decreases-values::value
decreases-values::value g l = work l.depth (levels (shape_of l.format.now)) + 4

abbrev pub decreases-values::option : goal.decreases-values::option
decreases-values::option g l = work l.depth (levels (shape_of l.part.now)) + 5

abbrev pub decreases-rows::items : goal.decreases-rows::items
decreases-rows::items g l = work l.depth (levels (shape_of l.element.now)) + 6

abbrev pub decreases-rows::elements : goal.decreases-rows::elements
decreases-rows::elements g l = work l.depth (levels (shape_of l.element.now)) + 5

abbrev pub decreases-rows::tuple : goal.decreases-rows::tuple
decreases-rows::tuple g l = work l.depth (shapes_levels (formats_shapes l.formats.now)) + 6

abbrev pub decreases-containers::structure : goal.decreases-containers::structure
decreases-containers::structure g l = work l.depth (shapes_levels (field_shapes (map field_of l.fields.now))) + 6

abbrev pub decreases-containers::named : goal.decreases-containers::named
decreases-containers::named g l = work l.depth 0 + 3

abbrev pub decreases-containers::content : goal.decreases-containers::content
decreases-containers::content g l = work l.depth 34

abbrev pub decreases-containers::payload : goal.decreases-containers::payload
decreases-containers::payload g l = work l.depth (levels (payload_shape (payload_of l.payload.now))) + 6

abbrev pub decreases-maps::pairs : goal.decreases-maps::pairs
decreases-maps::pairs g l = work l.depth (max (levels (shape_of l.key.now)) (levels (shape_of l.part.now))) + 7

abbrev pub decreases-maps::each_entry : goal.decreases-maps::each_entry
decreases-maps::each_entry g l = work l.depth (max (levels (shape_of l.key.now)) (levels (shape_of l.part.now))) + 6

abbrev pub decreases-maps::next_key : goal.decreases-maps::next_key
decreases-maps::next_key g l = work l.depth (levels (shape_of l.key.now)) + 5

abbrev pub invariant-rows::elements-loop : goal.invariant-rows::elements-loop
invariant-rows::elements-loop g l = record {
  leads : Leads g.S.ByteSource.content g.S.ByteSource.is_failed g.S.ByteSource.allowance (items_here skipping (skip l.fn.reader.registry.now l.depth (shape_of l.element)) l.count)
      (items_here skipping (skip l.fn.reader.registry.now l.depth (shape_of l.element)) (l.count - l.counter)) l.fn.reader l.reader;
}

abbrev pub invariant-rows::tuple-loop-format : goal.invariant-rows::tuple-loop-format
invariant-rows::tuple-loop-format g l = record {
  leads : Leads g.S.ByteSource.content g.S.ByteSource.is_failed g.S.ByteSource.allowance (skip l.fn.reader.registry.now l.depth (tuple_shape (formats_shapes l.formats)))
      (each l.fn.reader.registry.now l.depth (formats_shapes (drop l.format-index l.formats))) l.fn.reader l.reader;
}

abbrev pub invariant-containers::structure-loop-field : goal.invariant-containers::structure-loop-field
invariant-containers::structure-loop-field g l = record {
  leads : Leads g.S.ByteSource.content g.S.ByteSource.is_failed g.S.ByteSource.allowance (skip l.fn.reader.registry.now l.depth (tuple_shape (field_shapes (map field_of l.fields))))
      (each l.fn.reader.registry.now l.depth (field_shapes (map field_of (drop l.field-index l.fields)))) l.fn.reader l.reader;
}

abbrev pub invariant-maps::each_entry-loop : goal.invariant-maps::each_entry-loop
invariant-maps::each_entry-loop g l = record {
  ready : Ready g.S.ByteSource.is_failed g.S.ByteSource.allowance l.reader;
  same : IsSame l.fn.reader l.reader;
  begun : l.keys.begun ≡ length l.fn.reader.at.now.kept.items;
  stands : Stands l.keys.last l.keys.begun (length l.reader.at.now.kept.items);
  goes : AlongMap (length l.fn.reader.at.now.kept.items) (g.S.ByteSource.content l.fn.reader.source.now) l.fn.reader.at.now (g.S.ByteSource.content l.reader.source.now) l.reader.at.now;
  sees : LeadsTo (pairs_here skipping (skip l.fn.reader.registry.now l.depth (shape_of l.key)) (skip l.fn.reader.registry.now l.depth (shape_of l.part)) None l.count)
      (pairs_here skipping (skip l.fn.reader.registry.now l.depth (shape_of l.key)) (skip l.fn.reader.registry.now l.depth (shape_of l.part)) (last_bytes l.keys.last l.reader.at.now.kept.items) (l.count - l.counter))
      (g.S.ByteSource.content l.fn.reader.source.now) l.fn.reader.at.now (g.S.ByteSource.content l.reader.source.now) l.reader.at.now;
}
