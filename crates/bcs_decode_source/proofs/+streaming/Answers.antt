use Rattle.bcs_decode_source.proofs.Prelude.{common_steps, ◌≡◌, ◌∙◌, ◌+◌, ◌≤◌, suc, List, [], length, refl, ap, sym, map, take, drop, Some, true, arith, rules, drop_all, err_from_is_err_and, Shape, Shapes, tuple_shape, of, one_of, content, field_shapes, payload_shape, content_at, choice_at, levels, shapes_levels, shape_of, formats_shapes, field_of, payload_of, choice_of, container_of, Named, Format, tree_of, last_bytes, key_of, enter_here, rest_of, number_node, read, option_node, items_node, pairs_node, tuple_value, container_value, content_value, key_here, chain, give, building, items_same, content_found, content_missing, choice_found, choice_missing, levels_in, field_levels_in, formats_next, fields_next, shape_seen, content_at-inside, choice_at-inside}
use Rattle.bcs_value_model.specs.Tree as tree
use Rattle.bcs_decode_source.proofs.SourceSteps.{Along-none, Along-then, Along-map, AlongMap-then, AlongMap-value, AlongMap-key, front_length, Halts-then, Halts-after, FindsFault-whole, FindsFault-validated}
use Rattle.bcs_decode_source.proofs.KeptKeys.{Stands-begun, Stands-more, last_kept, same_key}
use Rattle.bcs_decode_source.proofs.StreamedKeys.{key_stop, kept_wrong, kept_right}
use Rattle.bcs_decode_source.proofs.Streamed.{read_leaf, read_whole, read_container, container_missing, container_stop, read_Opt, read_Seq, read_TupleArray, read_Map, read_Tuple, read_TypeName, unit_is, read_tuple, content_shape, enum_stop, enum_unknown, enum_refused, enum_built}
use Rattle.bcs_decode_source.proofs.StreamedRows.{items_none, items_more, items_done, items_refused, each_none, each_more, each_done, each_refused, pairs_none, pairs_more, pairs_done, key_refused, value_refused}
use Rattle.bcs_decode_source.proofs.Readers.{again, IsSame-then, Reads-as, Reads-then, Reads-put, Onward-none, Onward-then, Onward-done, Onward-ends, Onward-stops, Onward-lacks, Reads-exit}
use Rattle.bcs_decode_source.proofs.+streaming.Goals as goal

abbrev fields_shapes : List (Named Format) → Shapes
fields_shapes fs = field_shapes (map field_of fs)

pub values::value-returns-in-Scalar-clause-reads : goal.values::value-returns-in-Scalar-clause-reads
values::value-returns-in-Scalar-clause-reads g t c =
    rw (read_leaf c.args.reader.now.registry.now c.args.depth c.args.format.now c.in-Scalar.field-0 (shape_seen c.args.format.now c.kind.result _ c.kind.ensures c.in-Scalar.is)) c.leaf.ensures.reads

pub values::value-returns-in-Opt-clause-reads : goal.values::value-returns-in-Opt-clause-reads
values::value-returns-in-Opt-clause-reads g t c =
    Reads-as (read_Opt building c.args.reader.now.registry.now c.args.depth c.args.format.now _ (shape_seen c.args.format.now c.kind.result _ c.kind.ensures c.in-Opt.is)) c.option.ensures.reads

pub values::value-returns-in-Seq-clause-reads : goal.values::value-returns-in-Seq-clause-reads
values::value-returns-in-Seq-clause-reads g t c =
    Reads-as (read_Seq building c.args.reader.now.registry.now c.args.depth c.args.format.now _ (shape_seen c.args.format.now c.kind.result _ c.kind.ensures c.in-Seq.is)) c.items.ensures.reads

pub values::value-returns-in-TupleArray-clause-reads : goal.values::value-returns-in-TupleArray-clause-reads
values::value-returns-in-TupleArray-clause-reads g t c =
    Reads-as (read_TupleArray building c.args.reader.now.registry.now c.args.depth c.args.format.now _ _ (shape_seen c.args.format.now c.kind.result _ c.kind.ensures c.in-TupleArray.is)) c.items-in-TupleArray.ensures.reads

pub values::value-returns-in-Map-clause-reads : goal.values::value-returns-in-Map-clause-reads
values::value-returns-in-Map-clause-reads g t c =
    Reads-as (read_Map building c.args.reader.now.registry.now c.args.depth c.args.format.now _ _ (shape_seen c.args.format.now c.kind.result _ c.kind.ensures c.in-Map.is)) c.pairs.ensures.reads

pub values::value-returns-in-Tuple-clause-reads : goal.values::value-returns-in-Tuple-clause-reads
values::value-returns-in-Tuple-clause-reads g t c =
    Reads-as (read_Tuple c.args.reader.now.registry.now c.args.depth c.args.format.now _ (shape_seen c.args.format.now c.kind.result _ c.kind.ensures c.in-Tuple.is)) c.tuple.ensures.reads

pub values::value-returns-in-TypeName-clause-reads : goal.values::value-returns-in-TypeName-clause-reads
values::value-returns-in-TypeName-clause-reads g t c =
    Reads-as (read_TypeName c.args.reader.now.registry.now c.args.depth c.args.format.now _ (shape_seen c.args.format.now c.kind.result _ c.kind.ensures c.in-TypeName.is)) c.named.ensures.reads

pub rows::row-loop-init : goal.rows::row-loop-init
rows::row-loop-init g t c =
    record { on = Onward-none c.requires.ready; sees = items_none (read c.args.reader.now.registry.now c.args.depth (shape_of c.args.element.now)) c.args.count c.args.found.now.items (g.S.ByteSource.content c.args.reader.now.source.now) c.args.reader.now.at.now c.requires.empty }

pub rows::row-returns-in-Some : goal.rows::row-returns-in-Some
rows::row-returns-in-Some g t c =
    record { reads = rw (read_whole c.args.reader.now.registry.now c.args.depth (shape_of c.args.element.now) c.in-Some.format c.in-Some.ensures.found) c.push_numbers.ensures.reads }

pub rows::row-returns-then-count-eq0 : goal.rows::row-returns-then-count-eq0
rows::row-returns-then-count-eq0 g t c =
    let f = read c.args.reader.now.registry.now c.args.depth (shape_of c.args.element.now) in
    let from = g.S.ByteSource.content c.args.reader.now.source.now in
    let at = c.args.reader.now.at.now in
    record { reads = Onward-done (Onward-none c.requires.ready) (items_done f c.args.count 0 c.args.found.now.items from from at at (omega (arith, c.if-count-eq0.true)) (items_none f c.args.count c.args.found.now.items from at c.requires.empty)) }

pub rows::row-returns-in-Some-named_container : goal.rows::row-returns-in-Some-named_container
rows::row-returns-in-Some-named_container g t c =
    let r = c.args.reader.now.registry.now in
    let found = c.in-Some-named_container.ensures.found in
    let k = content (container_of c.in-Some-named_container.container.now) in
    record { reads = Reads-as (λ p m b. items_same building (read r c.args.depth (shape_of c.args.element.now)) (container_value r c.args.depth k) (read_container r c.args.depth (shape_of c.args.element.now) found.0 k found.1 found.2) c.args.count p m b) c.containers.ensures.reads }

pub rows::row-returns-in_err-value : goal.rows::row-returns-in_err-value
rows::row-returns-in_err-value g t c =
    record { reads = Reads-exit c.from_residual.ensures.1 (Onward-ends c.loop.invariant.on c.in_err-value.ensures.reads (items_refused c.in_err-value.field-0.0 (read c.args.reader.now.registry.now c.args.depth (shape_of c.args.element.now)) c.args.count c.loop.counter c.loop.found.items (g.S.ByteSource.content c.args.reader.now.source.now) (g.S.ByteSource.content c.loop.reader.source.now) c.args.reader.now.at.now c.loop.reader.at.now c.loop-test.true c.loop.invariant.sees (rw (← c.loop.invariant.on.same.registry) c.in_err-value.ensures.reads.sees))) }

pub rows::row-returns-in_err-keep : goal.rows::row-returns-in_err-keep
rows::row-returns-in_err-keep g t c =
    record { reads = Reads-exit c.from_residual-in_err-keep.ensures.1 (Onward-lacks (Onward-then c.loop.invariant.on c.in_ok-value.ensures.reads)) }

pub rows::row-loop-preserved : goal.rows::row-loop-preserved
rows::row-loop-preserved g t c =
    record { on = Onward-then c.loop.invariant.on c.in_ok-value.ensures.reads; sees = rw c.in_ok-keep.ensures.kept (items_more (read c.args.reader.now.registry.now c.args.depth (shape_of c.args.element.now)) c.args.count c.loop.counter c.loop.found.items c.value.new.slot (g.S.ByteSource.content c.args.reader.now.source.now) (g.S.ByteSource.content c.loop.reader.source.now) (g.S.ByteSource.content c.value.new.reader.source.now) c.args.reader.now.at.now c.loop.reader.at.now c.value.new.reader.at.now c.loop-test.true c.loop.invariant.sees (rw (← c.loop.invariant.on.same.registry) c.in_ok-value.ensures.reads.sees)) }

pub rows::row-returns : goal.rows::row-returns
rows::row-returns g t c =
    record { reads = Onward-done c.loop.invariant.on (items_done (read c.args.reader.now.registry.now c.args.depth (shape_of c.args.element.now)) c.args.count c.loop.counter c.loop.found.items (g.S.ByteSource.content c.args.reader.now.source.now) (g.S.ByteSource.content c.loop.reader.source.now) c.args.reader.now.at.now c.loop.reader.at.now c.loop-test.false c.loop.invariant.sees) }

pub rows::containers-loop-init : goal.rows::containers-loop-init
rows::containers-loop-init g t c =
    record { on = Onward-none c.requires.ready; sees = items_none (container_value c.args.reader.now.registry.now c.args.depth (content (container_of c.args.element.now))) c.args.count c.args.found.now.items (g.S.ByteSource.content c.args.reader.now.source.now) c.args.reader.now.at.now c.requires.empty }

pub rows::containers-returns-in_err-container : goal.rows::containers-returns-in_err-container
rows::containers-returns-in_err-container g t c =
    record { reads = Reads-exit c.from_residual.ensures.1 (Onward-ends c.loop.invariant.on c.in_err-container.ensures.reads (items_refused c.in_err-container.field-0.0 (container_value c.args.reader.now.registry.now c.args.depth (content (container_of c.args.element.now))) c.args.count c.loop.counter c.loop.found.items (g.S.ByteSource.content c.args.reader.now.source.now) (g.S.ByteSource.content c.loop.reader.source.now) c.args.reader.now.at.now c.loop.reader.at.now c.loop-test.true c.loop.invariant.sees (rw (← c.loop.invariant.on.same.registry) c.in_err-container.ensures.reads.sees))) }

pub rows::containers-returns-in_err-keep : goal.rows::containers-returns-in_err-keep
rows::containers-returns-in_err-keep g t c =
    record { reads = Reads-exit c.from_residual-in_err-keep.ensures.1 (Onward-lacks (Onward-then c.loop.invariant.on c.in_ok-container.ensures.reads)) }

pub rows::containers-loop-preserved : goal.rows::containers-loop-preserved
rows::containers-loop-preserved g t c =
    record { on = Onward-then c.loop.invariant.on c.in_ok-container.ensures.reads; sees = rw c.in_ok-keep.ensures.kept (items_more (container_value c.args.reader.now.registry.now c.args.depth (content (container_of c.args.element.now))) c.args.count c.loop.counter c.loop.found.items c.container.new.slot (g.S.ByteSource.content c.args.reader.now.source.now) (g.S.ByteSource.content c.loop.reader.source.now) (g.S.ByteSource.content c.container.new.reader.source.now) c.args.reader.now.at.now c.loop.reader.at.now c.container.new.reader.at.now c.loop-test.true c.loop.invariant.sees (rw (← c.loop.invariant.on.same.registry) c.in_ok-container.ensures.reads.sees)) }

pub rows::containers-returns : goal.rows::containers-returns
rows::containers-returns g t c =
    record { reads = Onward-done c.loop.invariant.on (items_done (container_value c.args.reader.now.registry.now c.args.depth (content (container_of c.args.element.now))) c.args.count c.loop.counter c.loop.found.items (g.S.ByteSource.content c.args.reader.now.source.now) (g.S.ByteSource.content c.loop.reader.source.now) c.args.reader.now.at.now c.loop.reader.at.now c.loop-test.false c.loop.invariant.sees) }

pub rows::parts-loop-format-init : goal.rows::parts-loop-format-init
rows::parts-loop-format-init g t c =
    record { on = Onward-none c.requires.ready; sees = each_none c.args.reader.now.registry.now c.args.depth (formats_shapes c.args.formats.now) (formats_shapes c.args.formats.now) c.args.found.now.items (g.S.ByteSource.content c.args.reader.now.source.now) c.args.reader.now.at.now refl c.requires.empty }

pub rows::parts-value-requires : goal.rows::parts-value-requires
rows::parts-value-requires g t c κs within =
    let low = levels_in c.args.formats.now c.loop-format.format-index c.format-item.result (omega arith) c.format-item.is in
    (omega (arith, low), (within, c.loop-format.invariant.on.ready))

pub rows::parts-returns-in_err-value : goal.rows::parts-returns-in_err-value
rows::parts-returns-in_err-value g t c =
    let next = formats_next c.args.formats.now c.loop-format.format-index c.format-item.result (omega arith) c.format-item.is in
    record { reads = Reads-exit c.from_residual.ensures.1 (Onward-ends c.loop-format.invariant.on c.in_err-value.ensures.reads (each_refused c.args.reader.now.registry.now c.args.depth c.in_err-value.field-0.0 (formats_shapes c.args.formats.now) (formats_shapes (drop c.loop-format.format-index c.args.formats.now)) (formats_shapes (drop (c.loop-format.format-index + 1) c.args.formats.now)) (shape_of c.format-item.result) c.loop-format.found.items (g.S.ByteSource.content c.args.reader.now.source.now) (g.S.ByteSource.content c.loop-format.reader.source.now) c.args.reader.now.at.now c.loop-format.reader.at.now next c.loop-format.invariant.sees (rw (← c.loop-format.invariant.on.same.registry) c.in_err-value.ensures.reads.sees))) }

pub rows::parts-returns-in_err-keep : goal.rows::parts-returns-in_err-keep
rows::parts-returns-in_err-keep g t c =
    record { reads = Reads-exit c.from_residual-in_err-keep.ensures.1 (Onward-lacks (Onward-then c.loop-format.invariant.on c.in_ok-value.ensures.reads)) }

pub rows::parts-loop-format-preserved : goal.rows::parts-loop-format-preserved
rows::parts-loop-format-preserved g t c =
    let next = formats_next c.args.formats.now c.loop-format.format-index c.format-item.result (omega arith) c.format-item.is in
    record { on = Onward-then c.loop-format.invariant.on c.in_ok-value.ensures.reads; sees = rw c.in_ok-keep.ensures.kept (each_more c.args.reader.now.registry.now c.args.depth (formats_shapes c.args.formats.now) (formats_shapes (drop c.loop-format.format-index c.args.formats.now)) (formats_shapes (drop (c.loop-format.format-index + 1) c.args.formats.now)) (shape_of c.format-item.result) c.loop-format.found.items c.value.new.slot (g.S.ByteSource.content c.args.reader.now.source.now) (g.S.ByteSource.content c.loop-format.reader.source.now) (g.S.ByteSource.content c.value.new.reader.source.now) c.args.reader.now.at.now c.loop-format.reader.at.now c.value.new.reader.at.now next c.loop-format.invariant.sees (rw (← c.loop-format.invariant.on.same.registry) c.in_ok-value.ensures.reads.sees)) }

pub rows::parts-returns : goal.rows::parts-returns
rows::parts-returns g t c =
    let none : drop c.loop-format.format-index c.args.formats.now ≡ [] = drop_all c.loop-format.format-index c.args.formats.now (omega arith) in
    record { reads = Onward-done c.loop-format.invariant.on (each_done c.args.reader.now.registry.now c.args.depth (formats_shapes c.args.formats.now) (formats_shapes (drop c.loop-format.format-index c.args.formats.now)) c.loop-format.found.items (g.S.ByteSource.content c.args.reader.now.source.now) (g.S.ByteSource.content c.loop-format.reader.source.now) c.args.reader.now.at.now c.loop-format.reader.at.now (ap formats_shapes none) c.loop-format.invariant.sees) }

pub containers::each_field-loop-field-init : goal.containers::each_field-loop-field-init
containers::each_field-loop-field-init g t c =
    record { on = Onward-none c.requires.ready; sees = each_none c.args.reader.now.registry.now c.args.depth (fields_shapes c.args.fields.now) (fields_shapes c.args.fields.now) c.args.found.now.items (g.S.ByteSource.content c.args.reader.now.source.now) c.args.reader.now.at.now refl c.requires.empty }

pub containers::each_field-value-requires : goal.containers::each_field-value-requires
containers::each_field-value-requires g t c κs within =
    let low = field_levels_in c.args.fields.now c.loop-field.field-index c.field-item.result (omega arith) c.field-item.is in
    (omega (arith, low), (within, c.loop-field.invariant.on.ready))

pub containers::each_field-returns-in_err-value : goal.containers::each_field-returns-in_err-value
containers::each_field-returns-in_err-value g t c =
    let next = fields_next c.args.fields.now c.loop-field.field-index c.field-item.result (omega arith) c.field-item.is in
    record { reads = Reads-exit c.from_residual.ensures.1 (Onward-ends c.loop-field.invariant.on c.in_err-value.ensures.reads (each_refused c.args.reader.now.registry.now c.args.depth c.in_err-value.field-0.0 (fields_shapes c.args.fields.now) (fields_shapes (drop c.loop-field.field-index c.args.fields.now)) (fields_shapes (drop (c.loop-field.field-index + 1) c.args.fields.now)) (shape_of c.field-item.result.value) c.loop-field.found.items (g.S.ByteSource.content c.args.reader.now.source.now) (g.S.ByteSource.content c.loop-field.reader.source.now) c.args.reader.now.at.now c.loop-field.reader.at.now next c.loop-field.invariant.sees (rw (← c.loop-field.invariant.on.same.registry) c.in_err-value.ensures.reads.sees))) }

pub containers::each_field-returns-in_err-keep : goal.containers::each_field-returns-in_err-keep
containers::each_field-returns-in_err-keep g t c =
    record { reads = Reads-exit c.from_residual-in_err-keep.ensures.1 (Onward-lacks (Onward-then c.loop-field.invariant.on c.in_ok-value.ensures.reads)) }

pub containers::each_field-loop-field-preserved : goal.containers::each_field-loop-field-preserved
containers::each_field-loop-field-preserved g t c =
    let next = fields_next c.args.fields.now c.loop-field.field-index c.field-item.result (omega arith) c.field-item.is in
    record { on = Onward-then c.loop-field.invariant.on c.in_ok-value.ensures.reads; sees = rw c.in_ok-keep.ensures.kept (each_more c.args.reader.now.registry.now c.args.depth (fields_shapes c.args.fields.now) (fields_shapes (drop c.loop-field.field-index c.args.fields.now)) (fields_shapes (drop (c.loop-field.field-index + 1) c.args.fields.now)) (shape_of c.field-item.result.value) c.loop-field.found.items c.value.new.slot (g.S.ByteSource.content c.args.reader.now.source.now) (g.S.ByteSource.content c.loop-field.reader.source.now) (g.S.ByteSource.content c.value.new.reader.source.now) c.args.reader.now.at.now c.loop-field.reader.at.now c.value.new.reader.at.now next c.loop-field.invariant.sees (rw (← c.loop-field.invariant.on.same.registry) c.in_ok-value.ensures.reads.sees)) }

pub containers::each_field-returns : goal.containers::each_field-returns
containers::each_field-returns g t c =
    let none : drop c.loop-field.field-index c.args.fields.now ≡ [] = drop_all c.loop-field.field-index c.args.fields.now (omega arith) in
    record { reads = Onward-done c.loop-field.invariant.on (each_done c.args.reader.now.registry.now c.args.depth (fields_shapes c.args.fields.now) (fields_shapes (drop c.loop-field.field-index c.args.fields.now)) c.loop-field.found.items (g.S.ByteSource.content c.args.reader.now.source.now) (g.S.ByteSource.content c.loop-field.reader.source.now) c.args.reader.now.at.now c.loop-field.reader.at.now (ap fields_shapes none) c.loop-field.invariant.sees) }

pub maps::each_entry-loop-init : goal.maps::each_entry-loop-init
maps::each_entry-loop-init g t c =
    let size : c.len.result ≡ length c.args.reader.now.at.now.kept.items = omega (arith, c.len.ensures, c.args.reader.now.at.now.kept.ok.0) in
    record {
      ready = c.requires.ready;
      same = again c.args.reader.now;
      begun = size;
      stands = omega (arith, size);
      goes = AlongMap-value (length c.args.reader.now.at.now.kept.items) (g.S.ByteSource.content c.args.reader.now.source.now) (g.S.ByteSource.content c.args.reader.now.source.now) c.args.reader.now.at.now c.args.reader.now.at.now (omega arith) (Along-none (g.S.ByteSource.content c.args.reader.now.source.now) c.args.reader.now.at.now);
      sees = pairs_none (read c.args.reader.now.registry.now c.args.depth (shape_of c.args.key.now)) (read c.args.reader.now.registry.now c.args.depth (shape_of c.args.part.now)) c.args.entries.now.count c.args.entries.now.found.items (g.S.ByteSource.content c.args.reader.now.source.now) c.args.reader.now.at.now c.requires.empty;
    }

pub maps::each_entry-returns-in_err-next_key : goal.maps::each_entry-returns-in_err-next_key
maps::each_entry-returns-in_err-next_key g t c =
    record {
      reads = record {
        sees = (let p = err_from_is_err_and c.from_residual.result c.from_residual.ensures.1 in
            rw (p.1, p.2) (key_refused c.in_err-next_key.field-0.0 (read c.args.reader.now.registry.now c.args.depth (shape_of c.args.key.now)) (read c.args.reader.now.registry.now c.args.depth (shape_of c.args.part.now)) c.args.entries.now.count c.loop.counter (last_bytes c.loop.keys.last c.loop.reader.at.now.kept.items) c.loop.entries.found.items (g.S.ByteSource.content c.args.reader.now.source.now) (g.S.ByteSource.content c.loop.reader.source.now) c.args.reader.now.at.now c.loop.reader.at.now c.loop-test.true c.loop.invariant.sees (rw (← c.loop.invariant.same.registry) c.in_err-next_key.ensures.reads.sees)));
        failed = search rules;
        room = search rules;
        goes = (let p = err_from_is_err_and c.from_residual.result c.from_residual.ensures.1 in
            rw (p.1, p.2) (Halts-after c.in_err-next_key.field-0.0 _ _ _ _ _ _ c.loop.invariant.goes.gone c.loop.invariant.goes.later c.in_err-next_key.ensures.reads.goes));
        same = search rules;
      };
    }

pub maps::each_entry-returns-in_err-value : goal.maps::each_entry-returns-in_err-value
maps::each_entry-returns-in_err-value g t c =
    record {
      reads = record {
        sees = (let p = err_from_is_err_and c.from_residual-in_err-value.result c.from_residual-in_err-value.ensures.1 in
            rw (p.1, p.2) (value_refused c.in_err-value.field-0.0 (read c.args.reader.now.registry.now c.args.depth (shape_of c.args.key.now)) (read c.args.reader.now.registry.now c.args.depth (shape_of c.args.part.now)) c.args.entries.now.count c.loop.counter (last_bytes c.loop.keys.last c.loop.reader.at.now.kept.items) (key_of c.next_key.new.keys.last c.next_key.new.reader.at.now.kept.items) c.loop.entries.found.items c.next_key.new.slot (g.S.ByteSource.content c.args.reader.now.source.now) (g.S.ByteSource.content c.loop.reader.source.now) (g.S.ByteSource.content c.next_key.new.reader.source.now) c.args.reader.now.at.now c.loop.reader.at.now c.next_key.new.reader.at.now c.loop-test.true c.loop.invariant.sees (rw (← c.loop.invariant.same.registry) c.in_ok-next_key.ensures.reads.sees) (rw (← (c.in_ok-next_key.ensures.reads.same.registry ∙ c.loop.invariant.same.registry)) c.in_err-value.ensures.reads.sees)));
        failed = search rules;
        room = search rules;
        goes = (let p = err_from_is_err_and c.from_residual-in_err-value.result c.from_residual-in_err-value.ensures.1 in
            rw (p.1, p.2) (Halts-after c.in_err-value.field-0.0 _ _ _ _ _ _ (λ b l. c.in_ok-next_key.ensures.reads.goes.gone b (c.loop.invariant.goes.gone b l)) (let first = c.loop.invariant.goes.later in let then_key = c.in_ok-next_key.ensures.reads.goes.later in omega arith) c.in_err-value.ensures.reads.goes));
        same = search rules;
      };
    }

pub maps::each_entry-returns-in_err-keep_entry : goal.maps::each_entry-returns-in_err-keep_entry
maps::each_entry-returns-in_err-keep_entry g t c =
    let key = c.in_ok-next_key.ensures.reads in
    let read = c.in_ok-value.ensures.reads in
    record {
      reads = Reads-exit c.from_residual-in_err-keep_entry.ensures.1 (record {
        sees = tt;
        failed = read.failed;
        room = read.room;
        goes = λ b l. (
          c.value.new.reader.at.now.place,
          (let first = c.loop.invariant.goes.later in let then_key = key.goes.later in let then_value = read.goes.later in omega arith),
          read.goes.gone b (key.goes.gone b (c.loop.invariant.goes.gone b l)),
        );
        same = IsSame-then (IsSame-then c.loop.invariant.same key.same) read.same;
      });
    }

pub maps::each_entry-loop-preserved : goal.maps::each_entry-loop-preserved
maps::each_entry-loop-preserved g t c =
    let n = length c.args.reader.now.at.now.kept.items in
    let key = c.in_ok-next_key.ensures in
    let goes = c.in_ok-value.ensures.reads.goes in
    let begun : c.next_key.new.keys.begun ≡ n = key.begun ∙ c.loop.invariant.begun in
    let low : n ≤ length c.next_key.new.reader.at.now.kept.items = omega (arith, begun, Stands-begun c.next_key.new.keys.last c.next_key.new.keys.begun (length c.next_key.new.reader.at.now.kept.items) key.stands) in
    let more : length c.next_key.new.reader.at.now.kept.items ≤ length c.value.new.reader.at.now.kept.items = front_length c.next_key.new.reader.at.now.kept.items c.value.new.reader.at.now.kept.items goes.front in
    let last = last_kept c.next_key.new.keys.last c.next_key.new.keys.begun c.next_key.new.reader.at.now.kept.items c.value.new.reader.at.now.kept.items key.stands goes.front ∙ key.last in
    let pairs = pairs_more (read c.args.reader.now.registry.now c.args.depth (shape_of c.args.key.now)) (read c.args.reader.now.registry.now c.args.depth (shape_of c.args.part.now)) c.args.entries.now.count c.loop.counter (last_bytes c.loop.keys.last c.loop.reader.at.now.kept.items) (key_of c.next_key.new.keys.last c.next_key.new.reader.at.now.kept.items) c.loop.entries.found.items c.next_key.new.slot c.value.new.slot (g.S.ByteSource.content c.args.reader.now.source.now) (g.S.ByteSource.content c.loop.reader.source.now) (g.S.ByteSource.content c.next_key.new.reader.source.now) (g.S.ByteSource.content c.value.new.reader.source.now) c.args.reader.now.at.now c.loop.reader.at.now c.next_key.new.reader.at.now c.value.new.reader.at.now c.loop-test.true c.loop.invariant.sees (rw (← c.loop.invariant.same.registry) key.reads.sees) (rw (← (c.in_ok-next_key.ensures.reads.same.registry ∙ c.loop.invariant.same.registry)) c.in_ok-value.ensures.reads.sees) in
    record {
      ready = record { good = c.in_ok-value.ensures.reads.failed; room = c.in_ok-value.ensures.reads.room };
      same = IsSame-then (IsSame-then c.loop.invariant.same key.reads.same) c.in_ok-value.ensures.reads.same;
      begun = begun;
      stands = Stands-more c.next_key.new.keys.last c.next_key.new.keys.begun (length c.next_key.new.reader.at.now.kept.items) (length c.value.new.reader.at.now.kept.items) more key.stands;
      goes = AlongMap-then n n (g.S.ByteSource.content c.args.reader.now.source.now) (g.S.ByteSource.content c.next_key.new.reader.source.now) (g.S.ByteSource.content c.value.new.reader.source.now) c.args.reader.now.at.now c.next_key.new.reader.at.now c.value.new.reader.at.now
          (AlongMap-then n c.loop.keys.begun (g.S.ByteSource.content c.args.reader.now.source.now) (g.S.ByteSource.content c.loop.reader.source.now) (g.S.ByteSource.content c.next_key.new.reader.source.now) c.args.reader.now.at.now c.loop.reader.at.now c.next_key.new.reader.at.now c.loop.invariant.goes (sym c.loop.invariant.begun) key.reads.goes) refl
          (AlongMap-value n (g.S.ByteSource.content c.next_key.new.reader.source.now) (g.S.ByteSource.content c.value.new.reader.source.now) c.next_key.new.reader.at.now c.value.new.reader.at.now low goes);
      sees = rw (c.in_ok-keep_entry.ensures.kept, last) pairs;
    }

pub maps::each_entry-returns : goal.maps::each_entry-returns
maps::each_entry-returns g t c =
    record {
      reads = record {
        sees = (let done = pairs_done (read c.args.reader.now.registry.now c.args.depth (shape_of c.args.key.now)) (read c.args.reader.now.registry.now c.args.depth (shape_of c.args.part.now)) c.args.entries.now.count c.loop.counter (last_bytes c.loop.keys.last c.loop.reader.at.now.kept.items) c.loop.entries.found.items (g.S.ByteSource.content c.args.reader.now.source.now) (g.S.ByteSource.content c.loop.reader.source.now) c.args.reader.now.at.now c.loop.reader.at.now c.loop-test.false c.loop.invariant.sees in
            let same = c.forget_last_key.ensures.same in
            λ told. (let found = done told in (found.0 ∙ rw (same.place, same.nodes) refl, found.1)));
        failed = search rules;
        room = search rules;
        goes = (let done = c.forget_last_key.ensures in
            Along-map (g.S.ByteSource.content c.args.reader.now.source.now) (g.S.ByteSource.content c.loop.reader.source.now) c.args.reader.now.at.now c.loop.reader.at.now c.forget_last_key.new.at c.loop.invariant.goes done.same.place done.same.key done.recorded
            (λ no. done.unrecorded no ∙ ap (λ i. take i c.loop.reader.at.now.kept.items) c.loop.invariant.begun));
        same = search rules;
      };
    }

pub maps::next_key-returns-in_err-value-clause-reads : goal.maps::next_key-returns-in_err-value-clause-reads
maps::next_key-returns-in_err-value-clause-reads g t c =
    record {
      sees = (let p = err_from_is_err_and c.from_residual.result c.from_residual.ensures.1 in
          let last = last_bytes c.args.keys.now.last c.args.reader.now.at.now.kept.items in
          rw (p.1, p.2) (FindsFault-whole c.in_err-value.field-0.0 (g.S.ByteSource.content c.args.reader.now.source.now) (g.S.ByteSource.content c.args.reader.now.source.now) c.args.reader.now.at.now (record c.args.reader.now.at.now { is_in_key = true }) (key_here (read c.args.reader.now.registry.now c.args.depth (shape_of c.args.key.now)) last) (read c.args.reader.now.registry.now c.args.depth (shape_of c.args.key.now)) (λ told. told) (λ e o told stop. key_stop (read c.args.reader.now.registry.now c.args.depth (shape_of c.args.key.now)) last c.args.reader.now.at.now.place c.args.reader.now.at.now.nodes (rest_of (g.S.ByteSource.content c.args.reader.now.source.now)) e o stop) c.in_err-value.ensures.reads.sees));
      failed = search rules;
      room = search rules;
      goes = search rules;
      same = search rules;
    }

pub maps::next_key-returns-in_err-follow-clause-reads : goal.maps::next_key-returns-in_err-follow-clause-reads
maps::next_key-returns-in_err-follow-clause-reads g t c =
    record {
      sees = (let size : c.len-from.result ≡ length c.args.reader.now.at.now.kept.items = omega (arith, c.len-from.ensures, c.args.reader.now.at.now.kept.ok.0) in
          let p = err_from_is_err_and c.from_residual-in_err-follow.result c.from_residual-in_err-follow.ensures.1 in
          rw (p.1, p.2) (FindsFault-validated c.in_err-follow.field-0.0 (g.S.ByteSource.content c.args.reader.now.source.now) c.args.reader.now.at.now (key_here (read c.args.reader.now.registry.now c.args.depth (shape_of c.args.key.now)) (last_bytes c.args.keys.now.last c.args.reader.now.at.now.kept.items)) _ _
          (λ e o told wrong. kept_wrong (read c.args.reader.now.registry.now c.args.depth (shape_of c.args.key.now)) c.args.keys.now.last c.args.keys.now.begun c.len-from.result (g.S.ByteSource.content c.args.reader.now.source.now) (g.S.ByteSource.content c.value.new.reader.source.now) c.args.reader.now.at.now c.value.new.reader.at.now (tree_of c.value.new.slot) told size c.requires.stands c.in_ok-value.ensures.reads.goes (c.in_ok-value.ensures.reads.sees told).0 e o wrong) c.in_err-follow.ensures.validates));
      failed = search rules;
      room = search rules;
      goes = search rules;
      same = search rules;
    }

pub maps::next_key-returns-clause-reads : goal.maps::next_key-returns-clause-reads
maps::next_key-returns-clause-reads g t c =
    record {
      sees = (let size : c.len-from.result ≡ length c.args.reader.now.at.now.kept.items = omega (arith, c.len-from.ensures, c.args.reader.now.at.now.kept.ok.0) in
          let same = c.follow.ensures.same in
          let key = same_key c.follow.new.keys.last c.follow.new.at.kept.items (drop c.len-from.result c.value.new.reader.at.now.kept.items) c.in_ok-follow.ensures.last in
          λ told. (let read_key = c.in_ok-value.ensures.reads.sees told in (kept_right (read c.args.reader.now.registry.now c.args.depth (shape_of c.args.key.now)) c.args.keys.now.last c.args.keys.now.begun c.len-from.result (g.S.ByteSource.content c.args.reader.now.source.now) (g.S.ByteSource.content c.value.new.reader.source.now) c.args.reader.now.at.now c.value.new.reader.at.now (tree_of c.value.new.slot) told size c.requires.stands c.in_ok-value.ensures.reads.goes read_key.0 c.in_ok-follow.ensures.validates ∙ rw (key, same.place, same.nodes) refl, read_key.1)));
      failed = search rules;
      room = search rules;
      goes = (let done = c.follow.ensures in
          AlongMap-key c.args.keys.now.begun (g.S.ByteSource.content c.args.reader.now.source.now) (g.S.ByteSource.content c.value.new.reader.source.now) c.args.reader.now.at.now c.value.new.reader.at.now c.follow.new.at (Stands-begun c.args.keys.now.last c.args.keys.now.begun (length c.args.reader.now.at.now.kept.items) c.requires.stands) c.in_ok-value.ensures.reads.goes done.same.place done.same.key done.recorded done.front);
      same = search rules;
    }

pub maps::next_key-returns-clause-last : goal.maps::next_key-returns-clause-last
maps::next_key-returns-clause-last g t c =
    let key = same_key c.follow.new.keys.last c.follow.new.at.kept.items (drop c.len-from.result c.value.new.reader.at.now.kept.items) c.in_ok-follow.ensures.last in
    c.in_ok-follow.ensures.last ∙ ap Some (sym key)

pub containers::content-returns-in_err-number-in-Enum : goal.containers::content-returns-in_err-number-in-Enum
containers::content-returns-in_err-number-in-Enum g t c =
    let is = ap (λ k. content (container_of k)) c.in-Enum.is in
    record { reads = Reads-exit c.from_residual.ensures.1 (Onward-ends (Onward-none c.requires.ready) c.in_err-number-in-Enum.ensures.reads (FindsFault-whole c.in_err-number-in-Enum.field-0.0 (g.S.ByteSource.content c.args.reader.now.source.now) (g.S.ByteSource.content c.args.reader.now.source.now) c.args.reader.now.at.now c.args.reader.now.at.now (content_value c.args.reader.now.registry.now c.args.depth (content (container_of c.args.found.now))) number_node (λ told. told) (λ e o told stop. ap (λ k. content_value c.args.reader.now.registry.now c.args.depth k c.args.reader.now.at.now.place c.args.reader.now.at.now.nodes (rest_of (g.S.ByteSource.content c.args.reader.now.source.now))) is ∙ enum_stop building c.args.reader.now.registry.now c.args.depth c.args.reader.now.at.now.place c.args.reader.now.at.now.nodes (rest_of (g.S.ByteSource.content c.args.reader.now.source.now)) (map choice_of c.in-Enum.variants.entries) (e, o) stop) c.in_err-number-in-Enum.ensures.reads.sees)) }

pub containers::content-returns-in_default : goal.containers::content-returns-in_default
containers::content-returns-in_default g t c =
    let is = ap (λ k. content (container_of k)) c.in-Enum.is in
    let on = Onward-then (Onward-none c.requires.ready) c.in_ok-number-in-Enum.ensures.reads in
    record { reads = Onward-stops on (omega (arith, on.goes.later)) (λ told. ap (λ k. content_value c.args.reader.now.registry.now c.args.depth k c.args.reader.now.at.now.place c.args.reader.now.at.now.nodes (rest_of (g.S.ByteSource.content c.args.reader.now.source.now))) is ∙ enum_unknown building c.args.reader.now.registry.now c.args.depth c.args.reader.now.at.now.place c.args.reader.now.at.now.nodes (rest_of (g.S.ByteSource.content c.args.reader.now.source.now)) (map choice_of c.in-Enum.variants.entries) c.in_ok-number-in-Enum.number _ _ _ (c.in_ok-number-in-Enum.ensures.reads.sees told).0 (choice_missing c.in_ok-number-in-Enum.number c.in-Enum.variants.entries c.get.result c.get.ensures.value c.in_default.is)) }

pub containers::content-returns-in_err-payload-in-Enum : goal.containers::content-returns-in_err-payload-in-Enum
containers::content-returns-in_err-payload-in-Enum g t c =
    let is = ap (λ k. content (container_of k)) c.in-Enum.is in
    let chosen : choice_at c.in_ok-number-in-Enum.number (map choice_of c.in-Enum.variants.entries) ≡ of (payload_shape (payload_of c.in-Some.variant.now.value)) = choice_found c.in_ok-number-in-Enum.number c.in-Enum.variants.entries c.in-Some.variant c.get.result c.get.ensures.value c.in-Some.is in
    record { reads = Reads-exit c.from_residual-in_err-payload-in-Enum.ensures.1 (Onward-ends (Onward-then (Onward-none c.requires.ready) c.in_ok-number-in-Enum.ensures.reads) c.in_err-payload-in-Enum.ensures.reads (FindsFault-whole c.in_err-payload-in-Enum.field-0.0 (g.S.ByteSource.content c.args.reader.now.source.now) (g.S.ByteSource.content c.variant_number.new.reader.source.now) c.args.reader.now.at.now c.variant_number.new.reader.at.now (content_value c.args.reader.now.registry.now c.args.depth (content (container_of c.args.found.now))) (read c.args.reader.now.registry.now c.args.depth (payload_shape (payload_of c.in-Some.variant.now.value))) (λ told. (c.in_ok-number-in-Enum.ensures.reads.sees told).1) (λ e o told stop. ap (λ k. content_value c.args.reader.now.registry.now c.args.depth k c.args.reader.now.at.now.place c.args.reader.now.at.now.nodes (rest_of (g.S.ByteSource.content c.args.reader.now.source.now))) is ∙ enum_refused c.args.reader.now.registry.now c.args.depth c.args.reader.now.at.now.place c.args.reader.now.at.now.nodes (rest_of (g.S.ByteSource.content c.args.reader.now.source.now)) (map choice_of c.in-Enum.variants.entries) c.in_ok-number-in-Enum.number _ _ _ (payload_shape (payload_of c.in-Some.variant.now.value)) e o (c.in_ok-number-in-Enum.ensures.reads.sees told).0 chosen stop) (rw (← c.in_ok-number-in-Enum.ensures.reads.same.registry) c.in_err-payload-in-Enum.ensures.reads.sees))) }

pub containers::content-returns-in-UnitStruct : goal.containers::content-returns-in-UnitStruct
containers::content-returns-in-UnitStruct g t c =
    let is = ap (λ k. content (container_of k)) c.in-UnitStruct.is in
    record { reads = Reads-as (λ p m b. ap (λ k. content_value c.args.reader.now.registry.now c.args.depth k p m b) is ∙ content_shape c.args.reader.now.registry.now c.args.depth p m b _ ∙ unit_is c.args.reader.now.registry.now c.args.depth p m b) c.put_unit.ensures.reads }

pub containers::content-returns-in-NewTypeStruct : goal.containers::content-returns-in-NewTypeStruct
containers::content-returns-in-NewTypeStruct g t c =
    let is = ap (λ k. content (container_of k)) c.in-NewTypeStruct.is in
    record { reads = Reads-as (λ p m b. ap (λ k. content_value c.args.reader.now.registry.now c.args.depth k p m b) is ∙ content_shape c.args.reader.now.registry.now c.args.depth p m b _) c.value.ensures.reads }

pub containers::content-returns-in-TupleStruct : goal.containers::content-returns-in-TupleStruct
containers::content-returns-in-TupleStruct g t c =
    let is = ap (λ k. content (container_of k)) c.in-TupleStruct.is in
    record { reads = Reads-as (λ p m b. ap (λ k. content_value c.args.reader.now.registry.now c.args.depth k p m b) is ∙ content_shape c.args.reader.now.registry.now c.args.depth p m b _ ∙ read_tuple c.args.reader.now.registry.now c.args.depth p m b _) (rw (← c.deref.ensures.value) c.tuple.ensures.reads) }

pub containers::content-returns-in-Struct : goal.containers::content-returns-in-Struct
containers::content-returns-in-Struct g t c =
    let is = ap (λ k. content (container_of k)) c.in-Struct.is in
    record { reads = Reads-as (λ p m b. ap (λ k. content_value c.args.reader.now.registry.now c.args.depth k p m b) is ∙ content_shape c.args.reader.now.registry.now c.args.depth p m b _ ∙ read_tuple c.args.reader.now.registry.now c.args.depth p m b _) (rw (← c.deref-in-Struct.ensures.value) c.structure.ensures.reads) }

pub containers::content-returns-in_ok-wrap_variant-in-Enum : goal.containers::content-returns-in_ok-wrap_variant-in-Enum
containers::content-returns-in_ok-wrap_variant-in-Enum g t c =
    let is = ap (λ k. content (container_of k)) c.in-Enum.is in
    let chosen : choice_at c.in_ok-number-in-Enum.number (map choice_of c.in-Enum.variants.entries) ≡ of (payload_shape (payload_of c.in-Some.variant.now.value)) = choice_found c.in_ok-number-in-Enum.number c.in-Enum.variants.entries c.in-Some.variant c.get.result c.get.ensures.value c.in-Some.is in
    record { reads = Onward-done (Onward-then (Onward-then (Onward-none c.requires.ready) c.in_ok-number-in-Enum.ensures.reads) c.in_ok-payload-in-Enum.ensures.reads) (λ told. (let number = c.in_ok-number-in-Enum.ensures.reads.sees told in let part = (rw c.in_ok-number-in-Enum.ensures.reads.same.registry at c.in_ok-payload-in-Enum.ensures.reads.sees) number.1 in (ap (λ k. content_value c.args.reader.now.registry.now c.args.depth k c.args.reader.now.at.now.place c.args.reader.now.at.now.nodes (rest_of (g.S.ByteSource.content c.args.reader.now.source.now))) is ∙ enum_built c.args.reader.now.registry.now c.args.depth c.args.reader.now.at.now.place c.args.reader.now.at.now.nodes (rest_of (g.S.ByteSource.content c.args.reader.now.source.now)) (map choice_of c.in-Enum.variants.entries) c.in_ok-number-in-Enum.number _ _ _ (payload_shape (payload_of c.in-Some.variant.now.value)) _ _ _ _ number.0 chosen part.0 ∙ rw (sym c.in_ok-wrap_variant-in-Enum.ensures.wrapped) refl, part.1))) }

pub containers::payload-returns-in-Unit : goal.containers::payload-returns-in-Unit
containers::payload-returns-in-Unit g t c =
    record { reads = Reads-as (λ p m b. ap (λ k. read c.args.reader.now.registry.now c.args.depth (payload_shape (payload_of k)) p m b) c.in-Unit.is ∙ unit_is c.args.reader.now.registry.now c.args.depth p m b) c.put_unit.ensures.reads }

pub containers::payload-returns-in-Tuple : goal.containers::payload-returns-in-Tuple
containers::payload-returns-in-Tuple g t c =
    record { reads = Reads-as (λ p m b. ap (λ k. read c.args.reader.now.registry.now c.args.depth (payload_shape (payload_of k)) p m b) c.in-Tuple.is ∙ read_tuple c.args.reader.now.registry.now c.args.depth p m b _) (rw (← c.deref.ensures.value) c.tuple.ensures.reads) }

pub containers::payload-returns-in-Struct : goal.containers::payload-returns-in-Struct
containers::payload-returns-in-Struct g t c =
    record { reads = Reads-as (λ p m b. ap (λ k. read c.args.reader.now.registry.now c.args.depth (payload_shape (payload_of k)) p m b) c.in-Struct.is ∙ read_tuple c.args.reader.now.registry.now c.args.depth p m b _) (rw (← c.deref-in-Struct.ensures.value) c.structure.ensures.reads) }

pub containers::content-value-requires : goal.containers::content-value-requires
containers::content-value-requires g t c κs within =
    let s : Shape = shape_of c.in-NewTypeStruct.format in
    let is : content_at c.requires.known.name c.args.reader.now.registry.now ≡ of s = c.requires.known.has ∙ ap (λ k. content (container_of k)) c.in-NewTypeStruct.is in
    let low : levels s ≤ 33 = (content_at-inside c.args.reader.now.registry.now c.requires.known.well_formed c.requires.known.name s is).1 in
    (omega (arith, low), (within, record { good = search rules; room = search rules }))

pub containers::content-tuple-requires : goal.containers::content-tuple-requires
containers::content-tuple-requires g t c κs within =
    let ss = formats_shapes c.in-TupleStruct.formats.items in
    let is : content_at c.requires.known.name c.args.reader.now.registry.now ≡ of (tuple_shape ss) = c.requires.known.has ∙ ap (λ k. content (container_of k)) c.in-TupleStruct.is in
    let low : suc (shapes_levels ss) ≤ 33 = (content_at-inside c.args.reader.now.registry.now c.requires.known.well_formed c.requires.known.name (tuple_shape ss) is).1 in
    let same : shapes_levels (formats_shapes c.deref.result.now) ≡ shapes_levels ss = ap (λ fs. shapes_levels (formats_shapes fs)) c.deref.ensures.value in
    (omega (arith, low, same), (within, record { good = search rules; room = search rules }))

pub containers::content-structure-requires : goal.containers::content-structure-requires
containers::content-structure-requires g t c κs within =
    let ss = fields_shapes c.in-Struct.fields.items in
    let is : content_at c.requires.known.name c.args.reader.now.registry.now ≡ of (tuple_shape ss) = c.requires.known.has ∙ ap (λ k. content (container_of k)) c.in-Struct.is in
    let low : suc (shapes_levels ss) ≤ 33 = (content_at-inside c.args.reader.now.registry.now c.requires.known.well_formed c.requires.known.name (tuple_shape ss) is).1 in
    let same : shapes_levels (fields_shapes c.deref-in-Struct.result.now) ≡ shapes_levels ss = ap (λ fs. shapes_levels (fields_shapes fs)) c.deref-in-Struct.ensures.value in
    (omega (arith, low, same), (within, record { good = search rules; room = search rules }))

pub containers::content-payload-requires : goal.containers::content-payload-requires
containers::content-payload-requires g t c κs within =
    let s : Shape = (payload_shape (payload_of c.in-Some.variant.now.value)) in
    let is : content_at c.requires.known.name c.args.reader.now.registry.now ≡ one_of (map choice_of c.in-Enum.variants.entries) = c.requires.known.has ∙ ap (λ k. content (container_of k)) c.in-Enum.is in
    let chosen : choice_at c.in_ok-number-in-Enum.number (map choice_of c.in-Enum.variants.entries) ≡ of (payload_shape (payload_of c.in-Some.variant.now.value)) = choice_found c.in_ok-number-in-Enum.number c.in-Enum.variants.entries c.in-Some.variant c.get.result c.get.ensures.value c.in-Some.is in
    let low : levels s ≤ 33 = (choice_at-inside c.args.reader.now.registry.now c.requires.known.well_formed c.requires.known.name (map choice_of c.in-Enum.variants.entries) is c.in_ok-number-in-Enum.number s chosen).1 in
    (omega (arith, low), (within, record { good = c.in_ok-number-in-Enum.ensures.reads.failed; room = c.in_ok-number-in-Enum.ensures.reads.room }))

pub containers::named-container-requires-2 : goal.containers::named-container-requires-2
containers::named-container-requires-2 g t c κs within =
    let r = c.args.reader.now.registry.now in (
      omega arith,
      (within, (record { good = search rules; room = search rules }, record { name = c.args.name.now; has = content_found r c.args.name.now c.container.result c.in-Some.found c.container.ensures.found c.in-Some.is; well_formed = c.container.ensures.well_formed })),
    )

pub containers::named-returns-in_err-enter : goal.containers::named-returns-in_err-enter
containers::named-returns-in_err-enter g t c =
    let r = c.args.reader.now.registry.now in
    let from = g.S.ByteSource.content c.args.reader.now.source.now in
    record {
      reads = Reads-exit c.from_residual.ensures.1 (Onward-ends (Onward-none (record { good = search rules; room = search rules })) c.in_err-enter.ensures.reads (FindsFault-whole c.in_err-enter.field-0.0 from from c.args.reader.now.at.now c.args.reader.now.at.now (container_value r c.args.depth (content_at c.args.name.now r)) (enter_here c.args.depth) (λ told. told)
          (λ e o told stop. container_stop r c.args.depth c.args.reader.now.at.now.place c.args.reader.now.at.now.nodes (rest_of from) (content_at c.args.name.now r) e o stop) c.in_err-enter.ensures.reads.sees));
    }

pub containers::named-returns-in_default : goal.containers::named-returns-in_default
containers::named-returns-in_default g t c =
    let r = c.args.reader.now.registry.now in
    let at = c.args.reader.now.at.now in
    let from = g.S.ByteSource.content c.args.reader.now.source.now in
    let on = Onward-then (Onward-none (record { good = search rules; room = search rules })) c.in_ok-enter.ensures.reads in
    record {
      reads = Onward-stops on (omega arith) (λ told. ap (λ k. container_value r c.args.depth k at.place at.nodes (rest_of from)) (content_missing r c.args.name.now c.container.result c.container.ensures.found c.in_default.is)
          ∙ container_missing r c.args.depth at.place at.nodes (rest_of from) _ _ _ (c.in_ok-enter.ensures.reads.sees told).0);
    }

pub containers::container-returns : goal.containers::container-returns
unfolding chain give container_value
containers::container-returns g t c =
    let on = Onward-then (Onward-then (Onward-none c.requires.ready) c.in_ok-enter.ensures.reads) c.in_ok-content.ensures.reads in
    record { reads = Onward-done on (grind (arith, common_steps)) }

pub maps::pairs-returns-in-Ok : goal.maps::pairs-returns-in-Ok
unfolding chain give pairs_node
maps::pairs-returns-in-Ok g t c =
    record { reads = record { sees = (grind (arith, common_steps)); failed = search rules; room = search rules; goes = (Along-then c.in_ok-count.ensures.reads.goes c.in-Ok.ensures.reads.goes); same = search rules } }

pub maps::pairs-returns-in-Err : goal.maps::pairs-returns-in-Err
unfolding chain give pairs_node
maps::pairs-returns-in-Err g t c =
    record { reads = record { sees = (grind (arith, common_steps)); failed = search rules; room = search rules; goes = (Halts-then c.in-Err.fault _ _ _ _ _ _ c.in_ok-count.ensures.reads.goes c.in-Err.ensures.reads.goes); same = search rules } }

pub maps::next_key-follow-requires-clause-long : goal.maps::next_key-follow-requires-clause-long
maps::next_key-follow-requires-clause-long g t c = grind (arith, common_steps)

pub values::option-returns-in_ok-wrap_present : goal.values::option-returns-in_ok-wrap_present
unfolding chain give option_node
values::option-returns-in_ok-wrap_present g t c =
    let on = Onward-then (Onward-then (Onward-none c.requires.ready) c.in_ok-flag_node.ensures.reads) c.in_ok-value.ensures.reads in
    record { reads = Onward-done on (grind (arith, common_steps)) }

pub values::option-returns-else-branch : goal.values::option-returns-else-branch
unfolding chain give option_node
values::option-returns-else-branch g t c =
    record { reads = Onward-done (Onward-then (Onward-none c.requires.ready) c.in_ok-flag_node.ensures.reads) (grind (arith, common_steps)) }

pub rows::items-returns : goal.rows::items-returns
unfolding items_node
rows::items-returns g t c =
    record { reads = rw c.finish.ensures.same (Reads-then _ c.in_ok-count.ensures.reads (Reads-put tree.items c.finish.ensures.put (rw (← c.in_ok-count.ensures.reads.same.registry) c.row-read.ensures.reads))) }

pub rows::tuple-returns : goal.rows::tuple-returns
unfolding tuple_value
rows::tuple-returns g t c =
    record { reads = rw c.finish.ensures.same (Reads-then _ c.in_ok-begin.ensures.reads (Reads-put tree.items c.finish.ensures.put (rw (← c.in_ok-begin.ensures.reads.same.registry) c.parts-read.ensures.reads))) }

pub containers::structure-returns : goal.containers::structure-returns
unfolding tuple_value
containers::structure-returns g t c =
    record { reads = rw c.finish.ensures.same (Reads-then _ c.in_ok-begin.ensures.reads (Reads-put tree.items c.finish.ensures.put (rw (← c.in_ok-begin.ensures.reads.same.registry) c.each_field-read.ensures.reads))) }
