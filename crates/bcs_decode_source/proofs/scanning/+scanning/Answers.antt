use Rattle.bcs_decode_source.proofs.Prelude.{◌≡◌, ◌∙◌, ◌-◌, ◌≤◌, ℕ, suc, List, [], length, refl, ap, sym, map, take, drop, None, true, arith, rules, drop_all, err_from_is_err_and, Shape, Shapes, name_shape, tuple_shape, Entries, Content, of, one_of, nothing, content, field_shapes, payload_shape, content_at, choice_at, levels, shapes_levels, shape_of, formats_shapes, field_of, payload_of, choice_of, container_of, Named, Format, Container, shape_seen, content_at-inside, choice_at-inside, UnknownVariant, fail, key_here, pairs_here, skipping, content_found, content_missing, choice_found, choice_missing, levels_in, field_levels_in, formats_next, fields_next, skip, whole_here, past_scalar, unit_is, items_same, items_stop, items_on, items_end, pairs_stop_key, pairs_end, each, tuple_stop, tuple_on, each_end, each_stop, each_on, named_stop, named_on, content_past, content_shape, content_nothing, last_bytes, key_of, rest_of, option_node, items_node, pairs_node, content_has_no_map, named_reaches_no_map, reaches_no_map}
use Rattle.bcs_decode_source.proofs.SourceSteps.{Along-map, AlongMap-then, AlongMap-value, AlongMap-key, front_length, Halts-after, FindsFault-whole, FindsFault-validated}
use Rattle.bcs_decode_source.proofs.KeptKeys.{Stands-begun, Stands-more, last_kept, same_key}
use Rattle.bcs_decode_source.proofs.Readers.{IsSame-then, Reads-as, Reads-then, Reads-ends, Reads-exit, Reads-never}
use Rattle.bcs_decode_source.proofs.StreamedRows.{Found}
use Rattle.bcs_decode_source.proofs.Leading.{leads_ends, leads_done, Reads-bare, Reads-in, Leads-none, Leads-on, Leads-ends, Leads-done, Leads-rest, Leads-stops}
use Rattle.bcs_decode_source.proofs.PastEntries.{value_ends, entry_on}
use Rattle.bcs_decode_source.proofs.StreamedKeys.{key_stop, kept_wrong, kept_right}
use Rattle.bcs_decode_source.proofs.PastParts.{past_shape, some_is, held_past, absent_is, option_on, unsupported_is}
use Rattle.bcs_decode_source.proofs.Streamed.{read_Opt, read_Seq, read_TupleArray, read_Map, enum_stop, enum_unknown, enum_skipped}
use Rattle.bcs_decode_source.proofs.MemoryFaults.{OutOfMemoryOnlyInKey-exit, OutOfMemoryOnlyInKey-on, format_has_no_map, field_has_no_map, choice_has_no_map, named_content}
use Rattle.bcs_decode_source.proofs.scanning.+scanning.Goals as goal

abbrev fields_shapes : List (Named Format) → Shapes
fields_shapes fs = field_shapes (map field_of fs)

-- ---- formats

pub values::value-returns-in-Scalar-Unit-clause-reads : goal.values::value-returns-in-Scalar-Unit-clause-reads
values::value-returns-in-Scalar-Unit-clause-reads g t c =
    Reads-as (past_scalar c.args.reader.now.registry.now c.args.depth c.args.format.now c.in-Scalar-Unit.field-0 _ (shape_seen c.args.format.now c.kind.result _ c.kind.ensures c.in-Scalar-Unit.is) c.in-Scalar-Unit.field-0-is) c.begin.ensures.reads

pub values::value-returns-in-Scalar-Bool-clause-reads : goal.values::value-returns-in-Scalar-Bool-clause-reads
values::value-returns-in-Scalar-Bool-clause-reads g t c =
    Reads-as (past_scalar c.args.reader.now.registry.now c.args.depth c.args.format.now c.in-Scalar-Bool.field-0 _ (shape_seen c.args.format.now c.kind.result _ c.kind.ensures c.in-Scalar-Bool.is) c.in-Scalar-Bool.field-0-is) c.truth.ensures.reads

pub values::value-returns-in-Scalar-Whole-clause-reads : goal.values::value-returns-in-Scalar-Whole-clause-reads
values::value-returns-in-Scalar-Whole-clause-reads g t c =
    Reads-as (λ p m b. past_scalar c.args.reader.now.registry.now c.args.depth c.args.format.now c.in-Scalar-Whole.field-0 _ (shape_seen c.args.format.now c.kind.result _ c.kind.ensures c.in-Scalar-Whole.is) c.in-Scalar-Whole.field-0-is p m b ∙ ap (λ n. whole_here n p m b) (sym c.byte_len.ensures)) c.whole.ensures.reads

pub values::value-returns-in-Scalar-Unsupported-clause-reads : goal.values::value-returns-in-Scalar-Unsupported-clause-reads
values::value-returns-in-Scalar-Unsupported-clause-reads g t c =
    Reads-as (past_scalar c.args.reader.now.registry.now c.args.depth c.args.format.now c.in-Scalar-Unsupported.field-0 _ (shape_seen c.args.format.now c.kind.result _ c.kind.ensures c.in-Scalar-Unsupported.is) c.in-Scalar-Unsupported.field-0-is) (Reads-never c.refuse.ensures.refused unsupported_is c.refuse.ensures.reads)

pub values::value-returns-in-Scalar-Str-clause-reads : goal.values::value-returns-in-Scalar-Str-clause-reads
values::value-returns-in-Scalar-Str-clause-reads g t c =
    Reads-as (past_scalar c.args.reader.now.registry.now c.args.depth c.args.format.now c.in-Scalar-Str.field-0 _ (shape_seen c.args.format.now c.kind.result _ c.kind.ensures c.in-Scalar-Str.is) c.in-Scalar-Str.field-0-is) c.text.ensures.reads

pub values::value-returns-in-Scalar-Bytes-clause-reads : goal.values::value-returns-in-Scalar-Bytes-clause-reads
values::value-returns-in-Scalar-Bytes-clause-reads g t c =
    Reads-as (past_scalar c.args.reader.now.registry.now c.args.depth c.args.format.now c.in-Scalar-Bytes.field-0 _ (shape_seen c.args.format.now c.kind.result _ c.kind.ensures c.in-Scalar-Bytes.is) c.in-Scalar-Bytes.field-0-is) c.bytes.ensures.reads

pub values::value-returns-in-Opt-clause-reads : goal.values::value-returns-in-Opt-clause-reads
values::value-returns-in-Opt-clause-reads g t c =
    Reads-as (read_Opt skipping c.args.reader.now.registry.now c.args.depth c.args.format.now _ (shape_seen c.args.format.now c.kind.result _ c.kind.ensures c.in-Opt.is)) c.option.ensures.reads

pub values::value-returns-in-Seq-clause-reads : goal.values::value-returns-in-Seq-clause-reads
values::value-returns-in-Seq-clause-reads g t c =
    Reads-as (read_Seq skipping c.args.reader.now.registry.now c.args.depth c.args.format.now _ (shape_seen c.args.format.now c.kind.result _ c.kind.ensures c.in-Seq.is)) c.items.ensures.reads

pub values::value-returns-in-TupleArray-clause-reads : goal.values::value-returns-in-TupleArray-clause-reads
values::value-returns-in-TupleArray-clause-reads g t c =
    Reads-as (read_TupleArray skipping c.args.reader.now.registry.now c.args.depth c.args.format.now _ _ (shape_seen c.args.format.now c.kind.result _ c.kind.ensures c.in-TupleArray.is)) c.items-in-TupleArray.ensures.reads

pub values::value-returns-in-Map-clause-reads : goal.values::value-returns-in-Map-clause-reads
values::value-returns-in-Map-clause-reads g t c =
    Reads-as (read_Map skipping c.args.reader.now.registry.now c.args.depth c.args.format.now _ _ (shape_seen c.args.format.now c.kind.result _ c.kind.ensures c.in-Map.is)) c.pairs.ensures.reads

pub values::value-returns-in-Tuple-clause-reads : goal.values::value-returns-in-Tuple-clause-reads
values::value-returns-in-Tuple-clause-reads g t c =
    Reads-as (λ p m b. past_shape c.args.reader.now.registry.now c.args.depth c.args.format.now p m b _ (shape_seen c.args.format.now c.kind.result _ c.kind.ensures c.in-Tuple.is)) c.tuple.ensures.reads

pub values::value-returns-in-TypeName-clause-reads : goal.values::value-returns-in-TypeName-clause-reads
values::value-returns-in-TypeName-clause-reads g t c =
    Reads-as (λ p m b. past_shape c.args.reader.now.registry.now c.args.depth c.args.format.now p m b _ (shape_seen c.args.format.now c.kind.result _ c.kind.ensures c.in-TypeName.is)) c.named.ensures.reads

pub values::option-returns-in_err-flag_node-clause-reads : goal.values::option-returns-in_err-flag_node-clause-reads
unfolding option_node
values::option-returns-in_err-flag_node-clause-reads g t c =
    Reads-exit c.from_residual.ensures.1 (Reads-ends _ c.in_err-flag_node.ensures.reads)

pub values::option-returns-then-branch-clause-reads : goal.values::option-returns-then-branch-clause-reads
unfolding option_node
values::option-returns-then-branch-clause-reads g t c =
    Reads-then _ c.in_ok-flag_node.ensures.reads
    (Reads-as (λ p m b. some_is (skip c.args.reader.now.registry.now c.args.depth (shape_of c.args.part.now)) c.in_ok-flag_node.field-0 p m b c.if-branch.true) (rw (← c.in_ok-flag_node.ensures.reads.same.registry) c.value.ensures.reads))

pub values::option-returns-else-branch-clause-reads : goal.values::option-returns-else-branch-clause-reads
values::option-returns-else-branch-clause-reads g t c =
    let f = (skip c.args.reader.now.registry.now c.args.depth (shape_of c.args.part.now)) in
    Leads-done {g = held_past f c.in_ok-flag_node.field-0} (Leads-on (Leads-none {f = option_node skipping f} {g = option_node skipping f} c.requires.ready (λ b. refl)) c.in_ok-flag_node.ensures.reads (λ b t h. option_on f _ _ b c.in_ok-flag_node.field-0 _ _ t h))
    (λ b. absent_is f c.in_ok-flag_node.field-0 _ _ b c.if-branch.false)

-- ---- lists

pub rows::items-returns-in_err-count-clause-reads : goal.rows::items-returns-in_err-count-clause-reads
unfolding items_node
rows::items-returns-in_err-count-clause-reads g t c =
    Reads-exit c.from_residual.ensures.1 (Reads-ends _ c.in_err-count.ensures.reads)

pub rows::items-returns-clause-reads : goal.rows::items-returns-clause-reads
unfolding items_node
rows::items-returns-clause-reads g t c =
    Reads-then _ c.in_ok-count.ensures.reads (Reads-bare (rw (← c.in_ok-count.ensures.reads.same.registry) c.elements.ensures.reads))

pub rows::elements-returns-in-Some-clause-reads : goal.rows::elements-returns-in-Some-clause-reads
rows::elements-returns-in-Some-clause-reads g t c =
    let found = c.in-Some.ensures.reads in
    Reads-as (λ p m b. items_same skipping _ _ (λ o l s. found.1 c.args.reader.now.registry.now c.args.depth o l s) c.args.count p m b) c.skip_integers.ensures.reads

pub rows::elements-returns-in_err-value-clause-reads : goal.rows::elements-returns-in_err-value-clause-reads
rows::elements-returns-in_err-value-clause-reads g t c =
    Reads-exit c.from_residual.ensures.1 (Leads-ends c.loop.invariant.leads (Reads-in (λ r. skip r c.args.depth (shape_of c.args.element.now)) c.loop.invariant.leads.on.same.registry c.in_err-value.ensures.reads)
    (λ b e h. items_stop (skip c.args.reader.now.registry.now c.args.depth (shape_of c.args.element.now)) c.args.count c.loop.counter _ _ b e c.loop-test.true h))

pub rows::elements-loop-preserved : goal.rows::elements-loop-preserved
rows::elements-loop-preserved g t c =
    record {
      leads = Leads-on c.loop.invariant.leads (Reads-in (λ r. skip r c.args.depth (shape_of c.args.element.now)) c.loop.invariant.leads.on.same.registry c.in_ok-value.ensures.reads)
          (λ b t h. items_on (skip c.args.reader.now.registry.now c.args.depth (shape_of c.args.element.now)) c.args.count c.loop.counter _ _ b _ _ t c.loop-test.true h);
    }

pub rows::elements-returns-clause-reads : goal.rows::elements-returns-clause-reads
rows::elements-returns-clause-reads g t c =
    Leads-done c.loop.invariant.leads (λ b. items_end (skip c.args.reader.now.registry.now c.args.depth (shape_of c.args.element.now)) c.args.count c.loop.counter _ _ b c.loop-test.false)

pub rows::tuple-returns-in_err-begin-clause-reads : goal.rows::tuple-returns-in_err-begin-clause-reads
rows::tuple-returns-in_err-begin-clause-reads g t c =
    Reads-exit c.from_residual.ensures.1 (Leads-ends (Leads-none {g = skip c.args.reader.now.registry.now c.args.depth (tuple_shape (formats_shapes c.args.formats.now))} c.requires.ready (λ b. refl)) c.in_err-begin.ensures.reads (λ b e h. tuple_stop c.args.reader.now.registry.now c.args.depth _ _ b (formats_shapes c.args.formats.now) e h))

pub rows::tuple-loop-format-init : goal.rows::tuple-loop-format-init
rows::tuple-loop-format-init g t c =
    record { leads = Leads-on (Leads-none {g = skip c.args.reader.now.registry.now c.args.depth (tuple_shape (formats_shapes c.args.formats.now))} c.requires.ready (λ b. refl)) c.in_ok-begin.ensures.reads (λ b t h. tuple_on c.args.reader.now.registry.now c.args.depth _ _ b (formats_shapes c.args.formats.now) _ _ t h) }

pub rows::tuple-value-requires : goal.rows::tuple-value-requires
rows::tuple-value-requires g t c κs within =
    let low = levels_in c.args.formats.now c.loop-format.format-index c.format-item.result (omega arith) c.format-item.is in
    (omega (arith, low), (within, c.loop-format.invariant.leads.on.ready))

pub rows::tuple-returns-in_err-value-clause-reads : goal.rows::tuple-returns-in_err-value-clause-reads
rows::tuple-returns-in_err-value-clause-reads g t c =
    let next = formats_next c.args.formats.now c.loop-format.format-index c.format-item.result (omega arith) c.format-item.is in
    Reads-exit c.from_residual-in_err-value.ensures.1 (Leads-ends c.loop-format.invariant.leads (Reads-in (λ r. skip r c.args.depth (shape_of c.format-item.result)) c.loop-format.invariant.leads.on.same.registry c.in_err-value.ensures.reads)
    (λ b e h. each_stop c.args.reader.now.registry.now c.args.depth _ _ b _ _ _ e next h))

pub rows::tuple-loop-format-preserved : goal.rows::tuple-loop-format-preserved
rows::tuple-loop-format-preserved g t c =
    let next = formats_next c.args.formats.now c.loop-format.format-index c.format-item.result (omega arith) c.format-item.is in
    record {
      leads = Leads-on c.loop-format.invariant.leads (Reads-in (λ r. skip r c.args.depth (shape_of c.format-item.result)) c.loop-format.invariant.leads.on.same.registry c.in_ok-value.ensures.reads)
          (λ b t h. each_on c.args.reader.now.registry.now c.args.depth _ _ b _ _ _ _ _ t next h);
    }

pub rows::tuple-returns-clause-reads : goal.rows::tuple-returns-clause-reads
rows::tuple-returns-clause-reads g t c =
    let none : drop c.loop-format.format-index c.args.formats.now ≡ [] = drop_all c.loop-format.format-index c.args.formats.now (omega arith) in
    Leads-done c.loop-format.invariant.leads (λ b. ap (λ ys. each c.args.reader.now.registry.now c.args.depth (formats_shapes ys) c.loop-format.reader.at.now.place c.loop-format.reader.at.now.nodes b) none ∙ each_end c.args.reader.now.registry.now c.args.depth _ _ b)

-- ---- containers

pub containers::structure-returns-in_err-begin-clause-reads : goal.containers::structure-returns-in_err-begin-clause-reads
containers::structure-returns-in_err-begin-clause-reads g t c =
    Reads-exit c.from_residual.ensures.1 (Leads-ends (Leads-none {g = skip c.args.reader.now.registry.now c.args.depth (tuple_shape (fields_shapes c.args.fields.now))} c.requires.ready (λ b. refl)) c.in_err-begin.ensures.reads (λ b e h. tuple_stop c.args.reader.now.registry.now c.args.depth _ _ b (fields_shapes c.args.fields.now) e h))

pub containers::structure-loop-field-init : goal.containers::structure-loop-field-init
containers::structure-loop-field-init g t c =
    record { leads = Leads-on (Leads-none {g = skip c.args.reader.now.registry.now c.args.depth (tuple_shape (fields_shapes c.args.fields.now))} c.requires.ready (λ b. refl)) c.in_ok-begin.ensures.reads (λ b t h. tuple_on c.args.reader.now.registry.now c.args.depth _ _ b (fields_shapes c.args.fields.now) _ _ t h) }

pub containers::structure-value-requires : goal.containers::structure-value-requires
containers::structure-value-requires g t c κs within =
    let low = field_levels_in c.args.fields.now c.loop-field.field-index c.field-item.result (omega arith) c.field-item.is in
    (omega (arith, low), (within, c.loop-field.invariant.leads.on.ready))

pub containers::structure-returns-in_err-value-clause-reads : goal.containers::structure-returns-in_err-value-clause-reads
containers::structure-returns-in_err-value-clause-reads g t c =
    let next = fields_next c.args.fields.now c.loop-field.field-index c.field-item.result (omega arith) c.field-item.is in
    Reads-exit c.from_residual-in_err-value.ensures.1 (Leads-ends c.loop-field.invariant.leads (Reads-in (λ r. skip r c.args.depth (shape_of c.field-item.result.value)) c.loop-field.invariant.leads.on.same.registry c.in_err-value.ensures.reads)
    (λ b e h. each_stop c.args.reader.now.registry.now c.args.depth _ _ b _ _ _ e next h))

pub containers::structure-loop-field-preserved : goal.containers::structure-loop-field-preserved
containers::structure-loop-field-preserved g t c =
    let next = fields_next c.args.fields.now c.loop-field.field-index c.field-item.result (omega arith) c.field-item.is in
    record {
      leads = Leads-on c.loop-field.invariant.leads (Reads-in (λ r. skip r c.args.depth (shape_of c.field-item.result.value)) c.loop-field.invariant.leads.on.same.registry c.in_ok-value.ensures.reads)
          (λ b t h. each_on c.args.reader.now.registry.now c.args.depth _ _ b _ _ _ _ _ t next h);
    }

pub containers::structure-returns-clause-reads : goal.containers::structure-returns-clause-reads
containers::structure-returns-clause-reads g t c =
    let none : drop c.loop-field.field-index c.args.fields.now ≡ [] = drop_all c.loop-field.field-index c.args.fields.now (omega arith) in
    Leads-done c.loop-field.invariant.leads (λ b. ap (λ ys. each c.args.reader.now.registry.now c.args.depth (fields_shapes ys) c.loop-field.reader.at.now.place c.loop-field.reader.at.now.nodes b) none ∙ each_end c.args.reader.now.registry.now c.args.depth _ _ b)

content_as : (registry : Entries) (d p m : ℕ) (b : List ℕ) (k j : Container) → k ≡ j → content_past registry d (content (container_of k)) p m b ≡ content_past registry d (content (container_of j)) p m b
content_as registry d p m b k j is = ap (λ (x : Container). content_past registry d (content (container_of x)) p m b) is

pub containers::content-value-requires : goal.containers::content-value-requires
containers::content-value-requires g t c κs within =
    let s : Shape = shape_of c.in-NewTypeStruct.format in
    let is : content_at c.requires.known.name c.args.reader.now.registry.now ≡ of s = c.requires.known.has ∙ ap (λ k. content (container_of k)) c.in-NewTypeStruct.is in
    let low : levels s ≤ 33 = (content_at-inside c.args.reader.now.registry.now c.requires.known.well_formed c.requires.known.name s is).1 in
    (omega (arith, low), (within, c.requires.ready))

pub containers::content-tuple-requires : goal.containers::content-tuple-requires
containers::content-tuple-requires g t c κs within =
    let ss = formats_shapes c.in-TupleStruct.formats.items in
    let is : content_at c.requires.known.name c.args.reader.now.registry.now ≡ of (tuple_shape ss) = c.requires.known.has ∙ ap (λ k. content (container_of k)) c.in-TupleStruct.is in
    let low : suc (shapes_levels ss) ≤ 33 = (content_at-inside c.args.reader.now.registry.now c.requires.known.well_formed c.requires.known.name (tuple_shape ss) is).1 in
    let same : shapes_levels (formats_shapes c.deref.result.now) ≡ shapes_levels ss = ap (λ fs. shapes_levels (formats_shapes fs)) c.deref.ensures.value in
    (omega (arith, low, same), (within, c.requires.ready))

pub containers::content-structure-requires : goal.containers::content-structure-requires
containers::content-structure-requires g t c κs within =
    let ss = fields_shapes c.in-Struct.fields.items in
    let is : content_at c.requires.known.name c.args.reader.now.registry.now ≡ of (tuple_shape ss) = c.requires.known.has ∙ ap (λ k. content (container_of k)) c.in-Struct.is in
    let low : suc (shapes_levels ss) ≤ 33 = (content_at-inside c.args.reader.now.registry.now c.requires.known.well_formed c.requires.known.name (tuple_shape ss) is).1 in
    let same : shapes_levels (fields_shapes c.deref-in-Struct.result.now) ≡ shapes_levels ss = ap (λ fs. shapes_levels (fields_shapes fs)) c.deref-in-Struct.ensures.value in
    (omega (arith, low, same), (within, c.requires.ready))

pub containers::content-payload-requires : goal.containers::content-payload-requires
containers::content-payload-requires g t c κs within =
    let cs = map choice_of c.in-Enum.variants.entries in
    let s : Shape = payload_shape (payload_of c.in-Some.variant.now.value) in
    let chosen : choice_at c.in_ok-number-in-Enum.number cs ≡ of s = choice_found c.in_ok-number-in-Enum.number c.in-Enum.variants.entries c.in-Some.variant c.get.result c.get.ensures.value c.in-Some.is in
    let is : content_at c.requires.known.name c.args.reader.now.registry.now ≡ one_of cs = c.requires.known.has ∙ ap (λ k. content (container_of k)) c.in-Enum.is in
    let low : levels s ≤ 33 = (choice_at-inside c.args.reader.now.registry.now c.requires.known.well_formed c.requires.known.name cs is c.in_ok-number-in-Enum.number s chosen).1 in
    (omega (arith, low), (within, record { good = c.in_ok-number-in-Enum.ensures.reads.failed; room = c.in_ok-number-in-Enum.ensures.reads.room }))

pub containers::content-returns-in-UnitStruct-clause-reads : goal.containers::content-returns-in-UnitStruct-clause-reads
containers::content-returns-in-UnitStruct-clause-reads g t c =
    Reads-as (λ p m b. content_as c.args.reader.now.registry.now c.args.depth p m b c.args.found.now _ c.in-UnitStruct.is ∙ content_shape c.args.reader.now.registry.now c.args.depth p m b _ ∙ unit_is c.args.reader.now.registry.now c.args.depth p m b) c.begin.ensures.reads

pub containers::content-returns-in-NewTypeStruct-clause-reads : goal.containers::content-returns-in-NewTypeStruct-clause-reads
containers::content-returns-in-NewTypeStruct-clause-reads g t c =
    Reads-as (λ p m b. content_as c.args.reader.now.registry.now c.args.depth p m b c.args.found.now _ c.in-NewTypeStruct.is ∙ content_shape c.args.reader.now.registry.now c.args.depth p m b _) c.value.ensures.reads

pub containers::content-returns-in-TupleStruct-clause-reads : goal.containers::content-returns-in-TupleStruct-clause-reads
containers::content-returns-in-TupleStruct-clause-reads g t c =
    Reads-as (λ p m b. content_as c.args.reader.now.registry.now c.args.depth p m b c.args.found.now _ c.in-TupleStruct.is ∙ content_shape c.args.reader.now.registry.now c.args.depth p m b _) (rw (← c.deref.ensures.value) c.tuple.ensures.reads)

pub containers::content-returns-in-Struct-clause-reads : goal.containers::content-returns-in-Struct-clause-reads
containers::content-returns-in-Struct-clause-reads g t c =
    Reads-as (λ p m b. content_as c.args.reader.now.registry.now c.args.depth p m b c.args.found.now _ c.in-Struct.is ∙ content_shape c.args.reader.now.registry.now c.args.depth p m b _) (rw (← c.deref-in-Struct.ensures.value) c.structure.ensures.reads)

pub containers::content-returns-in_err-number-in-Enum-clause-reads : goal.containers::content-returns-in_err-number-in-Enum-clause-reads
containers::content-returns-in_err-number-in-Enum-clause-reads g t c =
    let cs = map choice_of c.in-Enum.variants.entries in
    let from = Leads-none {f = content_past c.args.reader.now.registry.now c.args.depth (content (container_of c.args.found.now))} {g = content_past c.args.reader.now.registry.now c.args.depth (one_of cs)} c.requires.ready (λ b. content_as c.args.reader.now.registry.now c.args.depth _ _ b c.args.found.now _ c.in-Enum.is) in
    Reads-exit c.from_residual.ensures.1 (Leads-ends from c.in_err-number-in-Enum.ensures.reads (λ b e h. enum_stop skipping c.args.reader.now.registry.now c.args.depth _ _ b cs e h))

pub containers::content-returns-in-Some-clause-reads : goal.containers::content-returns-in-Some-clause-reads
containers::content-returns-in-Some-clause-reads g t c =
    let cs = map choice_of c.in-Enum.variants.entries in
    let s : Shape = payload_shape (payload_of c.in-Some.variant.now.value) in
    let chosen : choice_at c.in_ok-number-in-Enum.number cs ≡ of s = choice_found c.in_ok-number-in-Enum.number c.in-Enum.variants.entries c.in-Some.variant c.get.result c.get.ensures.value c.in-Some.is in
    let from = Leads-none {f = content_past c.args.reader.now.registry.now c.args.depth (content (container_of c.args.found.now))} {g = content_past c.args.reader.now.registry.now c.args.depth (one_of cs)} c.requires.ready (λ b. content_as c.args.reader.now.registry.now c.args.depth _ _ b c.args.found.now _ c.in-Enum.is) in
    let on = Leads-on {k = skip c.args.reader.now.registry.now c.args.depth s} from c.in_ok-number-in-Enum.ensures.reads (λ b t h. enum_skipped c.args.reader.now.registry.now c.args.depth _ _ b cs c.in_ok-number-in-Enum.number _ _ t s h chosen) in
    Leads-rest on (Reads-in (λ r. skip r c.args.depth s) c.in_ok-number-in-Enum.ensures.reads.same.registry c.payload.ensures.reads) (λ b. refl)

pub containers::content-returns-in-None-clause-reads : goal.containers::content-returns-in-None-clause-reads
unfolding fail
containers::content-returns-in-None-clause-reads g t c =
    let cs = map choice_of c.in-Enum.variants.entries in
    let from = Leads-none {f = content_past c.args.reader.now.registry.now c.args.depth (content (container_of c.args.found.now))} {g = content_past c.args.reader.now.registry.now c.args.depth (one_of cs)} c.requires.ready (λ b. content_as c.args.reader.now.registry.now c.args.depth _ _ b c.args.found.now _ c.in-Enum.is) in
    let none : choice_at c.in_ok-number-in-Enum.number cs ≡ nothing = choice_missing c.in_ok-number-in-Enum.number c.in-Enum.variants.entries c.get.result c.get.ensures.value c.in-None.is in
    let on = Leads-on {k = fail UnknownVariant c.args.reader.now.at.now.place} from c.in_ok-number-in-Enum.ensures.reads (λ b t h. enum_unknown skipping c.args.reader.now.registry.now c.args.depth _ _ b cs c.in_ok-number-in-Enum.number _ _ t h none) in
    Leads-stops on (omega (arith, on.on.goes.later)) (λ b. refl)

pub containers::named-returns-in_err-enter-clause-reads : goal.containers::named-returns-in_err-enter-clause-reads
containers::named-returns-in_err-enter-clause-reads g t c =
    let from = Leads-none {f = skip c.args.reader.now.registry.now c.args.depth (name_shape c.args.name.now)} {g = skip c.args.reader.now.registry.now c.args.depth (name_shape c.args.name.now)} (record { good = search rules; room = search rules }) (λ b. refl) in
    Reads-exit c.from_residual.ensures.1 (Leads-ends from c.in_err-enter.ensures.reads (λ b e h. named_stop c.args.reader.now.registry.now c.args.name.now _ _ b c.args.depth e h))

pub containers::named-returns-in_default-clause-reads : goal.containers::named-returns-in_default-clause-reads
containers::named-returns-in_default-clause-reads g t c =
    let from = Leads-none {f = skip c.args.reader.now.registry.now c.args.depth (name_shape c.args.name.now)} {g = skip c.args.reader.now.registry.now c.args.depth (name_shape c.args.name.now)} (record { good = search rules; room = search rules }) (λ b. refl) in
    let on = Leads-on {k = content_past c.args.reader.now.registry.now (c.args.depth - 1) (content_at c.args.name.now c.args.reader.now.registry.now)} from c.in_ok-enter.ensures.reads
    (λ b t h. named_on c.args.reader.now.registry.now c.args.name.now _ _ b c.args.depth _ _ t c.in_ok-enter.ensures.positive h) in
    let none : content_at c.args.name.now c.args.reader.now.registry.now ≡ nothing = ap (λ r. content_at c.args.name.now r) (sym c.in_ok-enter.ensures.reads.same.registry) ∙ content_missing c.enter.new.reader.registry.now c.args.name.now c.container.result c.container.ensures.found c.in_default.is in
    Leads-stops on (omega arith) (λ b. ap (λ (k : Content). content_past c.args.reader.now.registry.now (c.args.depth - 1) k c.enter.new.reader.at.now.place c.enter.new.reader.at.now.nodes b) none ∙ content_nothing c.args.reader.now.registry.now (c.args.depth - 1) _ _ b)

pub containers::named-content-requires : goal.containers::named-content-requires
containers::named-content-requires g t c κs within = (
  omega (arith, c.in_ok-enter.ensures.positive),
  (
    within,
    (
      record { good = c.in_ok-enter.ensures.reads.failed; room = c.in_ok-enter.ensures.reads.room },
      record {
        name = c.args.name.now;
        has = content_found _ c.args.name.now c.container.result c.in-Some.found c.container.ensures.found c.in-Some.is;
        well_formed = c.container.ensures.well_formed;
      },
    ),
  ),
)

pub containers::named-returns-clause-reads : goal.containers::named-returns-clause-reads
containers::named-returns-clause-reads g t c =
    let from = Leads-none {f = skip c.args.reader.now.registry.now c.args.depth (name_shape c.args.name.now)} {g = skip c.args.reader.now.registry.now c.args.depth (name_shape c.args.name.now)} (record { good = search rules; room = search rules }) (λ b. refl) in
    let on = Leads-on {k = content_past c.args.reader.now.registry.now (c.args.depth - 1) (content_at c.args.name.now c.args.reader.now.registry.now)} from c.in_ok-enter.ensures.reads
    (λ b t h. named_on c.args.reader.now.registry.now c.args.name.now _ _ b c.args.depth _ _ t c.in_ok-enter.ensures.positive h) in
    let found : content_at c.args.name.now c.args.reader.now.registry.now ≡ content (container_of c.in-Some.found.now) = ap (λ r. content_at c.args.name.now r) (sym c.in_ok-enter.ensures.reads.same.registry) ∙ content_found c.enter.new.reader.registry.now c.args.name.now c.container.result c.in-Some.found c.container.ensures.found c.in-Some.is in
    Leads-rest on (Reads-in (λ r. content_past r (c.args.depth - 1) (content (container_of c.in-Some.found.now))) c.in_ok-enter.ensures.reads.same.registry c.content.ensures.reads)
    (λ b. ap (λ (k : Content). content_past c.args.reader.now.registry.now (c.args.depth - 1) k c.enter.new.reader.at.now.place c.enter.new.reader.at.now.nodes b) found)

pub containers::payload-returns-in-Unit-clause-reads : goal.containers::payload-returns-in-Unit-clause-reads
containers::payload-returns-in-Unit-clause-reads g t c =
    Reads-as (λ p m b. ap (λ k. skip c.args.reader.now.registry.now c.args.depth (payload_shape (payload_of k)) p m b) c.in-Unit.is ∙ unit_is c.args.reader.now.registry.now c.args.depth p m b) c.begin.ensures.reads

-- ---- maps

pub maps::pairs-returns-in_err-count : goal.maps::pairs-returns-in_err-count
unfolding pairs_node
maps::pairs-returns-in_err-count g t c =
    record { reads = Reads-exit c.from_residual.ensures.1 (Reads-ends _ c.in_err-count.ensures.reads) }

pub maps::pairs-returns : goal.maps::pairs-returns
unfolding pairs_node
maps::pairs-returns g t c =
    record { reads = Reads-then _ c.in_ok-count.ensures.reads (Reads-bare (rw (← c.in_ok-count.ensures.reads.same.registry) c.each_entry.ensures.reads)) }

pub maps::each_entry-returns-in_err-next_key : goal.maps::each_entry-returns-in_err-next_key
maps::each_entry-returns-in_err-next_key g t c =
    let p = err_from_is_err_and c.from_residual.result c.from_residual.ensures.1 in
    record {
      reads = record {
        sees = rw (p.1, p.2) (leads_ends (pairs_here skipping (skip c.args.reader.now.registry.now c.args.depth (shape_of c.args.key.now)) (skip c.args.reader.now.registry.now c.args.depth (shape_of c.args.part.now)) None c.args.count) (pairs_here skipping (skip c.args.reader.now.registry.now c.args.depth (shape_of c.args.key.now)) (skip c.args.reader.now.registry.now c.args.depth (shape_of c.args.part.now)) (last_bytes c.loop.keys.last c.loop.reader.at.now.kept.items) (c.args.count - c.loop.counter)) (g.S.ByteSource.content c.args.reader.now.source.now) (g.S.ByteSource.content c.loop.reader.source.now) c.args.reader.now.at.now c.loop.reader.at.now c.loop.invariant.sees c.in_err-next_key.field-0.0 (key_here (skip c.args.reader.now.registry.now c.args.depth (shape_of c.args.key.now)) (last_bytes c.loop.keys.last c.loop.reader.at.now.kept.items)) (rw (← c.loop.invariant.same.registry) c.in_err-next_key.ensures.reads.sees)
            (λ b e h. pairs_stop_key (skip c.args.reader.now.registry.now c.args.depth (shape_of c.args.key.now)) (skip c.args.reader.now.registry.now c.args.depth (shape_of c.args.part.now)) (last_bytes c.loop.keys.last c.loop.reader.at.now.kept.items) c.args.count c.loop.counter _ _ b e c.loop-test.true h));
        failed = search rules;
        room = search rules;
        goes = rw (p.1, p.2) (Halts-after c.in_err-next_key.field-0.0 _ _ _ _ _ _ c.loop.invariant.goes.gone c.loop.invariant.goes.later c.in_err-next_key.ensures.reads.goes);
        same = search rules;
      };
    }

pub maps::each_entry-returns-in_err-value : goal.maps::each_entry-returns-in_err-value
maps::each_entry-returns-in_err-value g t c =
    let p = err_from_is_err_and c.from_residual-in_err-value.result c.from_residual-in_err-value.ensures.1 in
    let key = c.in_ok-next_key.ensures in
    let read_key : Found (tt, key_of c.next_key.new.keys.last c.next_key.new.reader.at.now.kept.items) (key_here (skip c.args.reader.now.registry.now c.args.depth (shape_of c.args.key.now)) (last_bytes c.loop.keys.last c.loop.reader.at.now.kept.items)) (g.S.ByteSource.content c.loop.reader.source.now) (g.S.ByteSource.content c.next_key.new.reader.source.now) c.loop.reader.at.now c.next_key.new.reader.at.now = rw (← c.loop.invariant.same.registry) key.reads.sees in
    record {
      reads = record {
        sees = rw (p.1, p.2) (value_ends (skip c.args.reader.now.registry.now c.args.depth (shape_of c.args.key.now)) (skip c.args.reader.now.registry.now c.args.depth (shape_of c.args.part.now)) c.args.count c.loop.counter (last_bytes c.loop.keys.last c.loop.reader.at.now.kept.items) (key_of c.next_key.new.keys.last c.next_key.new.reader.at.now.kept.items) (g.S.ByteSource.content c.args.reader.now.source.now) (g.S.ByteSource.content c.loop.reader.source.now) (g.S.ByteSource.content c.next_key.new.reader.source.now) c.args.reader.now.at.now c.loop.reader.at.now c.next_key.new.reader.at.now c.in_err-value.field-0.0 c.loop-test.true c.loop.invariant.sees read_key
            (rw (← (key.reads.same.registry ∙ c.loop.invariant.same.registry)) c.in_err-value.ensures.reads.sees));
        failed = search rules;
        room = search rules;
        goes = rw (p.1, p.2) (Halts-after c.in_err-value.field-0.0 _ _ _ _ _ _ (λ b l. key.reads.goes.gone b (c.loop.invariant.goes.gone b l)) (let first = c.loop.invariant.goes.later in let then_key = key.reads.goes.later in omega arith) c.in_err-value.ensures.reads.goes);
        same = search rules;
      };
    }

pub maps::each_entry-loop-preserved : goal.maps::each_entry-loop-preserved
maps::each_entry-loop-preserved g t c =
    let n = length c.args.reader.now.at.now.kept.items in
    let key = c.in_ok-next_key.ensures in
    let goes = c.in_ok-value.ensures.reads.goes in
    let begun : c.next_key.new.keys.begun ≡ n = key.begun ∙ c.loop.invariant.begun in
    let low : n ≤ length c.next_key.new.reader.at.now.kept.items = omega (arith, begun, Stands-begun c.next_key.new.keys.last c.next_key.new.keys.begun (length c.next_key.new.reader.at.now.kept.items) key.stands) in
    let more : length c.next_key.new.reader.at.now.kept.items ≤ length c.value.new.reader.at.now.kept.items = front_length c.next_key.new.reader.at.now.kept.items c.value.new.reader.at.now.kept.items goes.front in
    let last = last_kept c.next_key.new.keys.last c.next_key.new.keys.begun c.next_key.new.reader.at.now.kept.items c.value.new.reader.at.now.kept.items key.stands goes.front ∙ key.last in
    let read_key : Found (tt, key_of c.next_key.new.keys.last c.next_key.new.reader.at.now.kept.items) (key_here (skip c.args.reader.now.registry.now c.args.depth (shape_of c.args.key.now)) (last_bytes c.loop.keys.last c.loop.reader.at.now.kept.items)) (g.S.ByteSource.content c.loop.reader.source.now) (g.S.ByteSource.content c.next_key.new.reader.source.now) c.loop.reader.at.now c.next_key.new.reader.at.now = rw (← c.loop.invariant.same.registry) key.reads.sees in
    let pairs = entry_on (skip c.args.reader.now.registry.now c.args.depth (shape_of c.args.key.now)) (skip c.args.reader.now.registry.now c.args.depth (shape_of c.args.part.now)) c.args.count c.loop.counter (last_bytes c.loop.keys.last c.loop.reader.at.now.kept.items) (key_of c.next_key.new.keys.last c.next_key.new.reader.at.now.kept.items) (g.S.ByteSource.content c.args.reader.now.source.now) (g.S.ByteSource.content c.loop.reader.source.now) (g.S.ByteSource.content c.next_key.new.reader.source.now) c.args.reader.now.at.now c.loop.reader.at.now c.next_key.new.reader.at.now (g.S.ByteSource.content c.value.new.reader.source.now) c.value.new.reader.at.now c.loop-test.true c.loop.invariant.sees read_key
    (rw (← (key.reads.same.registry ∙ c.loop.invariant.same.registry)) c.in_ok-value.ensures.reads.sees) in
    record {
      ready = record { good = c.in_ok-value.ensures.reads.failed; room = c.in_ok-value.ensures.reads.room };
      same = IsSame-then (IsSame-then c.loop.invariant.same key.reads.same) c.in_ok-value.ensures.reads.same;
      begun = begun;
      stands = Stands-more c.next_key.new.keys.last c.next_key.new.keys.begun (length c.next_key.new.reader.at.now.kept.items) (length c.value.new.reader.at.now.kept.items) more key.stands;
      goes = AlongMap-then n n (g.S.ByteSource.content c.args.reader.now.source.now) (g.S.ByteSource.content c.next_key.new.reader.source.now) (g.S.ByteSource.content c.value.new.reader.source.now) c.args.reader.now.at.now c.next_key.new.reader.at.now c.value.new.reader.at.now
          (AlongMap-then n c.loop.keys.begun (g.S.ByteSource.content c.args.reader.now.source.now) (g.S.ByteSource.content c.loop.reader.source.now) (g.S.ByteSource.content c.next_key.new.reader.source.now) c.args.reader.now.at.now c.loop.reader.at.now c.next_key.new.reader.at.now c.loop.invariant.goes (sym c.loop.invariant.begun) key.reads.goes) refl
          (AlongMap-value n (g.S.ByteSource.content c.next_key.new.reader.source.now) (g.S.ByteSource.content c.value.new.reader.source.now) c.next_key.new.reader.at.now c.value.new.reader.at.now low goes);
      sees = rw last pairs;
    }

pub maps::each_entry-returns : goal.maps::each_entry-returns
maps::each_entry-returns g t c =
    let same = c.forget_last_key.ensures.same in
    let done = leads_done (pairs_here skipping (skip c.args.reader.now.registry.now c.args.depth (shape_of c.args.key.now)) (skip c.args.reader.now.registry.now c.args.depth (shape_of c.args.part.now)) None c.args.count) (pairs_here skipping (skip c.args.reader.now.registry.now c.args.depth (shape_of c.args.key.now)) (skip c.args.reader.now.registry.now c.args.depth (shape_of c.args.part.now)) (last_bytes c.loop.keys.last c.loop.reader.at.now.kept.items) (c.args.count - c.loop.counter)) (g.S.ByteSource.content c.args.reader.now.source.now) (g.S.ByteSource.content c.loop.reader.source.now) c.args.reader.now.at.now c.loop.reader.at.now c.loop.invariant.sees (λ b. pairs_end (skip c.args.reader.now.registry.now c.args.depth (shape_of c.args.key.now)) (skip c.args.reader.now.registry.now c.args.depth (shape_of c.args.part.now)) (last_bytes c.loop.keys.last c.loop.reader.at.now.kept.items) c.args.count c.loop.counter _ _ b c.loop-test.false) in
    record {
      reads = record {
        sees = λ told. (let found = done told in (found.0 ∙ rw (same.place, same.nodes) refl, found.1));
        failed = search rules;
        room = search rules;
        goes = Along-map (g.S.ByteSource.content c.args.reader.now.source.now) (g.S.ByteSource.content c.loop.reader.source.now) c.args.reader.now.at.now c.loop.reader.at.now c.forget_last_key.new.at c.loop.invariant.goes same.place same.key c.forget_last_key.ensures.recorded
            (λ no. c.forget_last_key.ensures.unrecorded no ∙ ap (λ i. take i c.loop.reader.at.now.kept.items) c.loop.invariant.begun);
        same = search rules;
      };
    }

pub maps::next_key-returns-in_err-value-clause-reads : goal.maps::next_key-returns-in_err-value-clause-reads
maps::next_key-returns-in_err-value-clause-reads g t c =
    let p = err_from_is_err_and c.from_residual.result c.from_residual.ensures.1 in
    record {
      sees = rw (p.1, p.2) (FindsFault-whole c.in_err-value.field-0.0 (g.S.ByteSource.content c.args.reader.now.source.now) (g.S.ByteSource.content c.args.reader.now.source.now) c.args.reader.now.at.now (record c.args.reader.now.at.now { is_in_key = true }) (key_here (skip c.args.reader.now.registry.now c.args.depth (shape_of c.args.key.now)) (last_bytes c.args.keys.now.last c.args.reader.now.at.now.kept.items)) (skip c.args.reader.now.registry.now c.args.depth (shape_of c.args.key.now)) (λ told. told)
          (λ e o told stop. key_stop (skip c.args.reader.now.registry.now c.args.depth (shape_of c.args.key.now)) (last_bytes c.args.keys.now.last c.args.reader.now.at.now.kept.items) c.args.reader.now.at.now.place c.args.reader.now.at.now.nodes (rest_of (g.S.ByteSource.content c.args.reader.now.source.now)) e o stop) c.in_err-value.ensures.reads.sees);
      failed = search rules;
      room = search rules;
      goes = search rules;
      same = search rules;
    }

pub maps::next_key-returns-in_err-follow-clause-reads : goal.maps::next_key-returns-in_err-follow-clause-reads
maps::next_key-returns-in_err-follow-clause-reads g t c =
    let size : c.len-from.result ≡ length c.args.reader.now.at.now.kept.items = omega (arith, c.len-from.ensures, c.args.reader.now.at.now.kept.ok.0) in
    let p = err_from_is_err_and c.from_residual-in_err-follow.result c.from_residual-in_err-follow.ensures.1 in
    record {
      sees = rw (p.1, p.2) (FindsFault-validated c.in_err-follow.field-0.0 (g.S.ByteSource.content c.args.reader.now.source.now) c.args.reader.now.at.now (key_here (skip c.args.reader.now.registry.now c.args.depth (shape_of c.args.key.now)) (last_bytes c.args.keys.now.last c.args.reader.now.at.now.kept.items)) _ _
          (λ e o told wrong. kept_wrong (skip c.args.reader.now.registry.now c.args.depth (shape_of c.args.key.now)) c.args.keys.now.last c.args.keys.now.begun c.len-from.result (g.S.ByteSource.content c.args.reader.now.source.now) (g.S.ByteSource.content c.value.new.reader.source.now) c.args.reader.now.at.now c.value.new.reader.at.now tt told size c.requires.stands c.in_ok-value.ensures.reads.goes (c.in_ok-value.ensures.reads.sees told).0 e o wrong) c.in_err-follow.ensures.validates);
      failed = search rules;
      room = search rules;
      goes = search rules;
      same = search rules;
    }

pub maps::next_key-returns-clause-reads : goal.maps::next_key-returns-clause-reads
maps::next_key-returns-clause-reads g t c =
    let size : c.len-from.result ≡ length c.args.reader.now.at.now.kept.items = omega (arith, c.len-from.ensures, c.args.reader.now.at.now.kept.ok.0) in
    let same = c.follow.ensures.same in
    let key = same_key c.follow.new.keys.last c.follow.new.at.kept.items (drop c.len-from.result c.value.new.reader.at.now.kept.items) c.in_ok-follow.ensures.last in
    record {
      sees = λ told. (let read_key = c.in_ok-value.ensures.reads.sees told in
          (kept_right (skip c.args.reader.now.registry.now c.args.depth (shape_of c.args.key.now)) c.args.keys.now.last c.args.keys.now.begun c.len-from.result (g.S.ByteSource.content c.args.reader.now.source.now) (g.S.ByteSource.content c.value.new.reader.source.now) c.args.reader.now.at.now c.value.new.reader.at.now tt told size c.requires.stands c.in_ok-value.ensures.reads.goes read_key.0 c.in_ok-follow.ensures.validates ∙ rw (key, same.place, same.nodes) refl, read_key.1));
      failed = search rules;
      room = search rules;
      goes = AlongMap-key c.args.keys.now.begun (g.S.ByteSource.content c.args.reader.now.source.now) (g.S.ByteSource.content c.value.new.reader.source.now) c.args.reader.now.at.now c.value.new.reader.at.now c.follow.new.at (Stands-begun c.args.keys.now.last c.args.keys.now.begun (length c.args.reader.now.at.now.kept.items) c.requires.stands)
          c.in_ok-value.ensures.reads.goes same.place same.key c.follow.ensures.recorded c.follow.ensures.front;
      same = search rules;
    }

-- ---- out of memory

pub values::value-returns-in-Opt-clause-memory : goal.values::value-returns-in-Opt-clause-memory
values::value-returns-in-Opt-clause-memory g t c =
    λ h. c.option.ensures.memory (ap (reaches_no_map c.args.reader.now.registry.now c.args.depth) (sym (shape_seen c.args.format.now c.kind.result _ c.kind.ensures c.in-Opt.is)) ∙ h)

pub values::value-returns-in-Seq-clause-memory : goal.values::value-returns-in-Seq-clause-memory
values::value-returns-in-Seq-clause-memory g t c =
    λ h. c.items.ensures.memory (ap (reaches_no_map c.args.reader.now.registry.now c.args.depth) (sym (shape_seen c.args.format.now c.kind.result _ c.kind.ensures c.in-Seq.is)) ∙ h)

pub values::value-returns-in-TupleArray-clause-memory : goal.values::value-returns-in-TupleArray-clause-memory
values::value-returns-in-TupleArray-clause-memory g t c =
    λ h. c.items-in-TupleArray.ensures.memory (ap (reaches_no_map c.args.reader.now.registry.now c.args.depth) (sym (shape_seen c.args.format.now c.kind.result _ c.kind.ensures c.in-TupleArray.is)) ∙ h)

pub values::value-returns-in-Map-clause-memory : goal.values::value-returns-in-Map-clause-memory
values::value-returns-in-Map-clause-memory g t c =
    λ h. absurd (let no = ap (reaches_no_map c.args.reader.now.registry.now c.args.depth) (sym (shape_seen c.args.format.now c.kind.result _ c.kind.ensures c.in-Map.is)) ∙ h in cc)

pub values::value-returns-in-Tuple-clause-memory : goal.values::value-returns-in-Tuple-clause-memory
values::value-returns-in-Tuple-clause-memory g t c =
    λ h. c.tuple.ensures.memory (ap (reaches_no_map c.args.reader.now.registry.now c.args.depth) (sym (shape_seen c.args.format.now c.kind.result _ c.kind.ensures c.in-Tuple.is)) ∙ h)

pub values::value-returns-in-TypeName-clause-memory : goal.values::value-returns-in-TypeName-clause-memory
values::value-returns-in-TypeName-clause-memory g t c =
    λ h. c.named.ensures.memory (ap (reaches_no_map c.args.reader.now.registry.now c.args.depth) (sym (shape_seen c.args.format.now c.kind.result _ c.kind.ensures c.in-TypeName.is)) ∙ h)

pub values::option-returns-then-branch-clause-memory : goal.values::option-returns-then-branch-clause-memory
values::option-returns-then-branch-clause-memory g t c =
    λ h. OutOfMemoryOnlyInKey-on c.value.result c.args.reader.now.at.now c.flag_node.new.reader.at.now c.in_ok-flag_node.ensures.reads.goes.same (c.value.ensures.memory (ap (λ r. reaches_no_map r c.args.depth (shape_of c.args.part.now)) c.in_ok-flag_node.ensures.reads.same.registry ∙ h))

pub rows::items-returns-clause-memory : goal.rows::items-returns-clause-memory
rows::items-returns-clause-memory g t c =
    λ h. OutOfMemoryOnlyInKey-on c.elements.result c.args.reader.now.at.now c.row_count.new.reader.at.now c.in_ok-count.ensures.reads.goes.same (c.elements.ensures.memory (ap (λ r. reaches_no_map r c.args.depth (shape_of c.args.element.now)) c.in_ok-count.ensures.reads.same.registry ∙ h))

pub rows::elements-returns-in_err-value-clause-memory : goal.rows::elements-returns-in_err-value-clause-memory
rows::elements-returns-in_err-value-clause-memory g t c =
    λ h. OutOfMemoryOnlyInKey-exit c.from_residual.result c.in_err-value.field-0.0 c.args.reader.now.at.now c.loop.reader.at.now c.from_residual.ensures.1 c.loop.invariant.leads.on.goes.same
    (c.in_err-value.ensures.memory (ap (λ r. reaches_no_map r c.args.depth (shape_of c.args.element.now)) c.loop.invariant.leads.on.same.registry ∙ h))

pub rows::tuple-returns-in_err-value-clause-memory : goal.rows::tuple-returns-in_err-value-clause-memory
rows::tuple-returns-in_err-value-clause-memory g t c =
    λ h. OutOfMemoryOnlyInKey-exit c.from_residual-in_err-value.result c.in_err-value.field-0.0 c.args.reader.now.at.now c.loop-format.reader.at.now c.from_residual-in_err-value.ensures.1 c.loop-format.invariant.leads.on.goes.same
    (c.in_err-value.ensures.memory (ap (λ r. reaches_no_map r c.args.depth (shape_of c.format-item.result)) c.loop-format.invariant.leads.on.same.registry ∙ format_has_no_map (named_reaches_no_map c.args.reader.now.registry.now c.args.depth) c.args.formats.now c.loop-format.format-index c.format-item.result (omega arith) c.format-item.is h))

pub containers::structure-returns-in_err-value-clause-memory : goal.containers::structure-returns-in_err-value-clause-memory
containers::structure-returns-in_err-value-clause-memory g t c =
    λ h. OutOfMemoryOnlyInKey-exit c.from_residual-in_err-value.result c.in_err-value.field-0.0 c.args.reader.now.at.now c.loop-field.reader.at.now c.from_residual-in_err-value.ensures.1 c.loop-field.invariant.leads.on.goes.same
    (c.in_err-value.ensures.memory (ap (λ r. reaches_no_map r c.args.depth (shape_of c.field-item.result.value)) c.loop-field.invariant.leads.on.same.registry ∙ field_has_no_map (named_reaches_no_map c.args.reader.now.registry.now c.args.depth) c.args.fields.now c.loop-field.field-index c.field-item.result (omega arith) c.field-item.is h))

pub containers::content-returns-in-NewTypeStruct-clause-memory : goal.containers::content-returns-in-NewTypeStruct-clause-memory
containers::content-returns-in-NewTypeStruct-clause-memory g t c =
    λ h. c.value.ensures.memory (ap (λ (x : Container). content_has_no_map (named_reaches_no_map c.args.reader.now.registry.now c.args.depth) (content (container_of x))) (sym c.in-NewTypeStruct.is) ∙ h)

pub containers::content-returns-in-TupleStruct-clause-memory : goal.containers::content-returns-in-TupleStruct-clause-memory
containers::content-returns-in-TupleStruct-clause-memory g t c =
    λ h. c.tuple.ensures.memory (rw c.deref.ensures.value (ap (λ (x : Container). content_has_no_map (named_reaches_no_map c.args.reader.now.registry.now c.args.depth) (content (container_of x))) (sym c.in-TupleStruct.is) ∙ h))

pub containers::content-returns-in-Struct-clause-memory : goal.containers::content-returns-in-Struct-clause-memory
containers::content-returns-in-Struct-clause-memory g t c =
    λ h. c.structure.ensures.memory (rw c.deref-in-Struct.ensures.value (ap (λ (x : Container). content_has_no_map (named_reaches_no_map c.args.reader.now.registry.now c.args.depth) (content (container_of x))) (sym c.in-Struct.is) ∙ h))

pub containers::content-returns-in-Some-clause-memory : goal.containers::content-returns-in-Some-clause-memory
containers::content-returns-in-Some-clause-memory g t c =
    let cs = map choice_of c.in-Enum.variants.entries in
    let s : Shape = payload_shape (payload_of c.in-Some.variant.now.value) in
    let chosen : choice_at c.in_ok-number-in-Enum.number cs ≡ of s = choice_found c.in_ok-number-in-Enum.number c.in-Enum.variants.entries c.in-Some.variant c.get.result c.get.ensures.value c.in-Some.is in
    λ h. OutOfMemoryOnlyInKey-on c.payload.result c.args.reader.now.at.now c.variant_number.new.reader.at.now c.in_ok-number-in-Enum.ensures.reads.goes.same
    (c.payload.ensures.memory (ap (λ r. reaches_no_map r c.args.depth s) c.in_ok-number-in-Enum.ensures.reads.same.registry ∙ choice_has_no_map (named_reaches_no_map c.args.reader.now.registry.now c.args.depth) c.in_ok-number-in-Enum.number cs s (ap (λ (x : Container). content_has_no_map (named_reaches_no_map c.args.reader.now.registry.now c.args.depth) (content (container_of x))) (sym c.in-Enum.is) ∙ h) chosen))

pub containers::named-returns-clause-memory : goal.containers::named-returns-clause-memory
containers::named-returns-clause-memory g t c =
    let found : content_at c.args.name.now c.args.reader.now.registry.now ≡ content (container_of c.in-Some.found.now) = ap (λ r. content_at c.args.name.now r) (sym c.in_ok-enter.ensures.reads.same.registry) ∙ content_found c.enter.new.reader.registry.now c.args.name.now c.container.result c.in-Some.found c.container.ensures.found c.in-Some.is in
    λ h. OutOfMemoryOnlyInKey-on c.content.result c.args.reader.now.at.now c.enter.new.reader.at.now c.in_ok-enter.ensures.reads.goes.same
    (c.content.ensures.memory (ap (λ r. content_has_no_map (named_reaches_no_map r (c.args.depth - 1)) (content (container_of c.in-Some.found.now))) c.in_ok-enter.ensures.reads.same.registry
    ∙ ap (content_has_no_map (named_reaches_no_map c.args.reader.now.registry.now (c.args.depth - 1))) (sym found)
    ∙ sym (named_content c.args.reader.now.registry.now c.args.depth c.args.name.now c.in_ok-enter.ensures.positive)
    ∙ h))

pub containers::payload-returns-in-NewType-clause-memory : goal.containers::payload-returns-in-NewType-clause-memory
containers::payload-returns-in-NewType-clause-memory g t c =
    λ h. c.value.ensures.memory (ap (λ k. reaches_no_map c.args.reader.now.registry.now c.args.depth (payload_shape (payload_of k))) (sym c.in-NewType.is) ∙ h)

pub containers::payload-returns-in-Tuple-clause-memory : goal.containers::payload-returns-in-Tuple-clause-memory
containers::payload-returns-in-Tuple-clause-memory g t c =
    λ h. c.tuple.ensures.memory (rw c.deref.ensures.value (ap (λ k. reaches_no_map c.args.reader.now.registry.now c.args.depth (payload_shape (payload_of k))) (sym c.in-Tuple.is) ∙ h))

pub containers::payload-returns-in-Struct-clause-memory : goal.containers::payload-returns-in-Struct-clause-memory
containers::payload-returns-in-Struct-clause-memory g t c =
    λ h. c.structure.ensures.memory (rw c.deref-in-Struct.ensures.value (ap (λ k. reaches_no_map c.args.reader.now.registry.now c.args.depth (payload_shape (payload_of k))) (sym c.in-Struct.is) ∙ h))
