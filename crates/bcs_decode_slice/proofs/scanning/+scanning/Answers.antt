use Rattle.bcs_decode_slice.proofs.Prelude.{◌≡◌, ℕ, List, ◌∙◌, ◌-◌, [], None, drop, map, ap, sym, arith, drop_all, err_from_is_err_and, Shape, name_shape, Content, nothing, content, field_shapes, content_at, layout_shape, levels, shape_of, formats_shapes, field_of, container_of, items_here, pairs_here, skipping, shape_seen, skip, node_here, truth_here, whole_here, text_past, bytes_past, unsupported_here, content_found, content_missing, levels_in, field_levels_in, formats_next, fields_next}
use Rattle.bcs_decode_spec.proofs.ScalarSteps.{past_scalar, unit_is}
use Rattle.bcs_decode_slice.proofs.Passings.{passes_from, passes_here}
use Rattle.bcs_decode_spec.proofs.PartSteps.{option_stop, option_some, option_none, list_stop, list_on, map_stop, map_on, array_stop, array_on, items_stop, items_on, items_end, pairs_stop_key, pairs_stop_value, pairs_on, pairs_end, each, tuple_stop, tuple_on, each_end, each_stop, each_on, named_stop, named_on, content_past, content_nothing, named_past}
use Rattle.bcs_decode_slice.proofs.Openings.{content_stop, content_on}
use Rattle.bcs_decode_slice.proofs.scanning.+scanning.Goals as goal

-- ---- sequences of values

pub elements-returns-in_err-value-clause-passes : goal.elements-returns-in_err-value-clause-passes
elements-returns-in_err-value-clause-passes t c =
    let p = err_from_is_err_and c.from_residual.result c.from_residual.ensures.1 in
    rw (p.1, p.2) (c.loop.invariant.whole ∙ items_stop (skip c.args.registry.now c.args.depth (shape_of c.args.element.now)) c.args.count c.loop.counter _ _ _ _ c.loop-test.true c.in_err-value.ensures.passes)

pub elements-loop-preserved : goal.elements-loop-preserved
elements-loop-preserved t c = record {
  room = omega (arith, c.loop.invariant.room, c.in_ok-value.ensures.onward.0);
  onward = (omega (arith, c.loop.invariant.onward.0, c.in_ok-value.ensures.onward.0), omega (arith, c.loop.invariant.onward.1, c.in_ok-value.ensures.onward.1));
  whole = c.loop.invariant.whole ∙ items_on (skip c.args.registry.now c.args.depth (shape_of c.args.element.now)) c.args.count c.loop.counter _ _ _ _ _ _ c.loop-test.true c.in_ok-value.ensures.passes;
}

pub elements-returns-clause-passes : goal.elements-returns-clause-passes
elements-returns-clause-passes t c =
    c.loop.invariant.whole ∙ items_end (skip c.args.registry.now c.args.depth (shape_of c.args.element.now)) c.args.count c.loop.counter _ _ _ c.loop-test.false

pub elements-returns-then-gone-count-clause-passes : goal.elements-returns-then-gone-count-clause-passes
elements-returns-then-gone-count-clause-passes t c =
    c.skip_fixed_size_list-gone.ensures.whole ∙ items_end (skip c.args.registry.now c.args.depth (shape_of c.args.element.now)) c.args.count c.skip_fixed_size_list-gone.result _ _ _ (omega (arith, c.if-gone-count.true))

pub elements-returns-in-Some-named_container-clause-passes : goal.elements-returns-in-Some-named_container-clause-passes
elements-returns-in-Some-named_container-clause-passes t c =
    let r = c.args.registry.now in
    let at = c.skip_fixed_size_list-gone.new.cursor in
    let n = c.args.count - c.skip_fixed_size_list-gone.result in
    let found = c.in-Some-named_container.ensures.found in
    passes_from (λ x. x) c.containers.result _ (items_here skipping (skip r c.args.depth (name_shape found.0)) n) c.args.cursor.now at c.containers.new.cursor
    (c.skip_fixed_size_list-gone.ensures.whole ∙ ap (λ s. items_here skipping (skip r c.args.depth s) n at.place at.nodes at.rest.now) found.1)
    (c.containers.ensures.passes found.0 found.2)

-- ---- entries

pub entries-returns-in_err-found-clause-passes : goal.entries-returns-in_err-found-clause-passes
entries-returns-in_err-found-clause-passes t c =
    let p = err_from_is_err_and c.from_residual.result c.from_residual.ensures.1 in
    rw (p.1, p.2) (c.loop.invariant.whole ∙ pairs_stop_key _ _ _ c.args.count c.loop.counter _ _ _ _ c.loop-test.true c.in_err-found.ensures.passes)

pub entries-returns-in_err-value-clause-passes : goal.entries-returns-in_err-value-clause-passes
entries-returns-in_err-value-clause-passes t c =
    let p = err_from_is_err_and c.from_residual-in_err-value.result c.from_residual-in_err-value.ensures.1 in
    rw (p.1, p.2) (c.loop.invariant.whole ∙ pairs_stop_value _ _ _ c.args.count c.loop.counter _ _ _ _ _ _ _ _ c.loop-test.true c.in_ok-found.ensures.passes c.in_err-value.ensures.passes)

pub entries-loop-preserved : goal.entries-loop-preserved
entries-loop-preserved t c =
    record {
      room = omega (arith, c.loop.invariant.room, c.in_ok-found.ensures.onward.0, c.in_ok-value.ensures.onward.0);
      onward = (omega (arith, c.loop.invariant.onward.0, c.in_ok-found.ensures.onward.0, c.in_ok-value.ensures.onward.0), omega (arith, c.loop.invariant.onward.1, c.in_ok-found.ensures.onward.1, c.in_ok-value.ensures.onward.1));
      whole = c.loop.invariant.whole ∙ pairs_on _ _ _ c.args.count c.loop.counter _ _ _ _ _ _ _ _ _ _ c.loop-test.true c.in_ok-found.ensures.passes c.in_ok-value.ensures.passes;
    }

pub entries-returns-clause-passes : goal.entries-returns-clause-passes
entries-returns-clause-passes t c =
    c.loop.invariant.whole ∙ pairs_end _ _ _ c.args.count c.loop.counter _ _ _ c.loop-test.false

-- ---- names

pub named-returns-in_err-enter-clause-passes : goal.named-returns-in_err-enter-clause-passes
named-returns-in_err-enter-clause-passes t c =
    let p = err_from_is_err_and c.from_residual.result c.from_residual.ensures.1 in
    rw (p.1, p.2) (named_stop c.args.registry.now c.args.name.now _ _ _ c.args.depth _ c.in_err-enter.ensures.passes)

pub named-returns-in_default-clause-passes : goal.named-returns-in_default-clause-passes
named-returns-in_default-clause-passes t c =
    let r = c.args.registry.now in
    let none : content_at c.args.name.now r ≡ nothing = content_missing r c.args.name.now c.container.result c.container.ensures.found c.in_default.is in
    named_on r c.args.name.now _ _ _ c.args.depth _ _ _ c.in_ok-enter.ensures.positive c.in_ok-enter.ensures.passes
    ∙ ap (λ (k : Content). content_past r (c.args.depth - 1) k c.enter.new.cursor.place c.enter.new.cursor.nodes c.enter.new.cursor.rest.now) none
    ∙ content_nothing r (c.args.depth - 1) c.enter.new.cursor.place c.enter.new.cursor.nodes c.enter.new.cursor.rest.now

pub named-content-requires : goal.named-content-requires
named-content-requires t c = (
  omega (arith, c.in_ok-enter.ensures.positive),
  (omega (arith, c.in_ok-enter.ensures.onward.0), ((c.args.name.now, content_found c.args.registry.now c.args.name.now c.container.result c.in-Some.container c.container.ensures.found c.in-Some.is), c.container.ensures.well_formed)),
)

pub named-returns-clause-passes : goal.named-returns-clause-passes
named-returns-clause-passes t c =
    let r = c.args.registry.now in
    let at = c.enter.new.cursor in
    passes_from (λ x. x) c.content.result _ (content_past r (c.args.depth - 1) (content (container_of c.in-Some.container.now))) c.args.cursor.now at c.content.new.cursor
    (named_past r c.args.name.now _ _ _ c.args.depth _ _ _ c.in-Some.container.now c.in_ok-enter.ensures.positive c.in_ok-enter.ensures.passes (content_found r c.args.name.now c.container.result c.in-Some.container c.container.ensures.found c.in-Some.is))
    c.content.ensures.passes

-- ---- sequences of containers

pub containers-returns-in_err-enter-clause-passes : goal.containers-returns-in_err-enter-clause-passes
containers-returns-in_err-enter-clause-passes t c name is =
    let p = err_from_is_err_and c.from_residual.result c.from_residual.ensures.1 in
    let r = c.args.registry.now in
    rw (p.1, p.2) (c.loop.invariant.whole name is ∙ items_stop (skip r c.args.depth (name_shape name)) c.args.count c.loop.counter _ _ _ _ c.loop-test.true
    (named_stop r name _ _ _ c.args.depth _ c.in_err-enter.ensures.passes))

pub containers-content-requires : goal.containers-content-requires
containers-content-requires t c = (
  omega (arith, c.in_ok-enter.ensures.positive),
  (omega (arith, c.loop.invariant.room, c.in_ok-enter.ensures.onward.0), (c.requires.found, c.requires.well_formed)),
)

pub containers-returns-in_err-content-clause-passes : goal.containers-returns-in_err-content-clause-passes
containers-returns-in_err-content-clause-passes t c name is =
    let p = err_from_is_err_and c.from_residual-in_err-content.result c.from_residual-in_err-content.ensures.1 in
    let r = c.args.registry.now in
    rw (p.1, p.2) (c.loop.invariant.whole name is ∙ items_stop (skip r c.args.depth (name_shape name)) c.args.count c.loop.counter _ _ _ _ c.loop-test.true
    (named_past r name _ _ _ c.args.depth _ _ _ c.args.container.now c.in_ok-enter.ensures.positive c.in_ok-enter.ensures.passes is ∙ c.in_err-content.ensures.passes))

pub containers-loop-preserved : goal.containers-loop-preserved
containers-loop-preserved t c =
    let r = c.args.registry.now in
    record {
      room = omega (arith, c.loop.invariant.room, c.in_ok-enter.ensures.onward.0, c.in_ok-content.ensures.onward.0);
      onward = (omega (arith, c.loop.invariant.onward.0, c.in_ok-enter.ensures.onward.0, c.in_ok-content.ensures.onward.0), omega (arith, c.loop.invariant.onward.1, c.in_ok-enter.ensures.onward.1, c.in_ok-content.ensures.onward.1));
      whole = λ name is. c.loop.invariant.whole name is ∙ items_on (skip r c.args.depth (name_shape name)) c.args.count c.loop.counter _ _ _ _ _ _ c.loop-test.true
          (named_past r name _ _ _ c.args.depth _ _ _ c.args.container.now c.in_ok-enter.ensures.positive c.in_ok-enter.ensures.passes is ∙ c.in_ok-content.ensures.passes);
    }

pub containers-returns-clause-passes : goal.containers-returns-clause-passes
containers-returns-clause-passes t c name is =
    c.loop.invariant.whole name is ∙ items_end (skip c.args.registry.now c.args.depth (name_shape name)) c.args.count c.loop.counter _ _ _ c.loop-test.false

-- ---- contents of containers

pub content-laid-requires : goal.content-laid-requires
content-laid-requires t c =
    let low = c.in_ok-layout.ensures.levels c.args.registry.now c.requires.found.0 c.requires.well_formed c.requires.found.1 in
    (omega (arith, low), omega (arith, c.requires.room, c.in_ok-layout.ensures.onward.0))

pub content-returns-in_err-layout-clause-passes : goal.content-returns-in_err-layout-clause-passes
content-returns-in_err-layout-clause-passes t c =
    let p = err_from_is_err_and c.from_residual.result c.from_residual.ensures.1 in
    rw (p.1, p.2) (content_stop c.args.registry.now c.args.depth _ _ _ _ _ c.in_err-layout.ensures.passes)

pub content-returns-clause-passes : goal.content-returns-clause-passes
content-returns-clause-passes t c =
    let r = c.args.registry.now in
    let d = c.args.depth in
    let s : Shape = layout_shape c.in_ok-layout.layout in
    passes_from (λ x. x) c.laid.result _ (skip r d s) c.args.cursor.now c.opened.new.cursor c.laid.new.cursor
    (content_on r d (content (container_of c.args.container.now)) _ _ _ s _ _ _ c.in_ok-layout.ensures.passes)
    c.laid.ensures.passes

pub laid-value-requires : goal.laid-value-requires
laid-value-requires t c = (omega (arith, ap (λ k. levels (layout_shape k)) c.in-NewType.is), c.requires.room)

pub laid-tuple-requires : goal.laid-tuple-requires
laid-tuple-requires t c = (omega (arith, ap (λ k. levels (layout_shape k)) c.in-Tuple.is), c.requires.room)

pub laid-structure-requires : goal.laid-structure-requires
laid-structure-requires t c = (omega (arith, ap (λ k. levels (layout_shape k)) c.in-Struct.is), c.requires.room)

pub laid-returns-in-Unit-clause-passes : goal.laid-returns-in-Unit-clause-passes
laid-returns-in-Unit-clause-passes t c =
    passes_here c.node.result _ node_here c.args.cursor.now c.node.new.cursor
    (λ p m b. ap (λ k. skip c.args.registry.now c.args.depth (layout_shape k) p m b) c.in-Unit.is ∙ unit_is c.args.registry.now c.args.depth p m b)
    c.node.ensures.passes

-- ---- tuple

pub tuple-value-requires : goal.tuple-value-requires
tuple-value-requires t c =
    let l = c.loop-format in
    let x = c.format-item.result in
    let low = levels_in c.args.formats.now l.format-index x (omega arith) c.format-item.is in
    (omega (arith, low), l.invariant.room)

pub tuple-returns-in_err-node-clause-passes : goal.tuple-returns-in_err-node-clause-passes
tuple-returns-in_err-node-clause-passes t c =
    let p = err_from_is_err_and c.from_residual.result c.from_residual.ensures.1 in
    rw (p.1, p.2) (tuple_stop c.args.registry.now c.args.depth _ _ _ (formats_shapes c.args.formats.now) _ c.in_err-node.ensures.passes)

pub tuple-returns-in_err-value-clause-passes : goal.tuple-returns-in_err-value-clause-passes
tuple-returns-in_err-value-clause-passes t c =
    let p = err_from_is_err_and c.from_residual-in_err-value.result c.from_residual-in_err-value.ensures.1 in
    let xs = c.args.formats.now in
    let l = c.loop-format in
    let x = c.format-item.result in
    let next = formats_next xs l.format-index x (omega arith) c.format-item.is in
    rw (p.1, p.2)
    (tuple_on c.args.registry.now c.args.depth _ _ _ (formats_shapes xs) _ _ _ c.in_ok-node.ensures.passes ∙ l.invariant.whole
    ∙ each_stop c.args.registry.now c.args.depth _ _ _ _ _ _ _ next c.in_err-value.ensures.passes)

pub tuple-loop-format-preserved : goal.tuple-loop-format-preserved
tuple-loop-format-preserved t c =
    let xs = c.args.formats.now in
    let l = c.loop-format in
    let x = c.format-item.result in
    let next = formats_next xs l.format-index x (omega arith) c.format-item.is in
    record {
      room = omega (arith, l.invariant.room, c.in_ok-value.ensures.onward.0);
      onward = (omega (arith, l.invariant.onward.0, c.in_ok-value.ensures.onward.0), omega (arith, l.invariant.onward.1, c.in_ok-value.ensures.onward.1));
      whole = l.invariant.whole
          ∙ each_on c.args.registry.now c.args.depth _ _ _ _ _ _ _ _ _ next c.in_ok-value.ensures.passes;
    }

pub tuple-returns-clause-passes : goal.tuple-returns-clause-passes
tuple-returns-clause-passes t c =
    let xs = c.args.formats.now in
    let l = c.loop-format in
    let none : drop l.format-index xs ≡ [] = drop_all l.format-index xs (omega arith) in
    tuple_on c.args.registry.now c.args.depth _ _ _ (formats_shapes xs) _ _ _ c.in_ok-node.ensures.passes ∙ l.invariant.whole
    ∙ ap (λ ys. each c.args.registry.now c.args.depth (formats_shapes ys) l.cursor.place l.cursor.nodes l.cursor.rest.now) none ∙ each_end c.args.registry.now c.args.depth _ _ _

-- ---- structure

pub structure-value-requires : goal.structure-value-requires
structure-value-requires t c =
    let l = c.loop-field in
    let x = c.field-item.result in
    let low = field_levels_in c.args.fields.now l.field-index x (omega arith) c.field-item.is in
    (omega (arith, low), l.invariant.room)

pub structure-returns-in_err-node-clause-passes : goal.structure-returns-in_err-node-clause-passes
structure-returns-in_err-node-clause-passes t c =
    let p = err_from_is_err_and c.from_residual.result c.from_residual.ensures.1 in
    rw (p.1, p.2) (tuple_stop c.args.registry.now c.args.depth _ _ _ (field_shapes (map field_of c.args.fields.now)) _ c.in_err-node.ensures.passes)

pub structure-returns-in_err-value-clause-passes : goal.structure-returns-in_err-value-clause-passes
structure-returns-in_err-value-clause-passes t c =
    let p = err_from_is_err_and c.from_residual-in_err-value.result c.from_residual-in_err-value.ensures.1 in
    let xs = c.args.fields.now in
    let l = c.loop-field in
    let x = c.field-item.result in
    let next = fields_next xs l.field-index x (omega arith) c.field-item.is in
    rw (p.1, p.2)
    (tuple_on c.args.registry.now c.args.depth _ _ _ (field_shapes (map field_of xs)) _ _ _ c.in_ok-node.ensures.passes ∙ l.invariant.whole
    ∙ each_stop c.args.registry.now c.args.depth _ _ _ _ _ _ _ next c.in_err-value.ensures.passes)

pub structure-loop-field-preserved : goal.structure-loop-field-preserved
structure-loop-field-preserved t c =
    let xs = c.args.fields.now in
    let l = c.loop-field in
    let x = c.field-item.result in
    let next = fields_next xs l.field-index x (omega arith) c.field-item.is in
    record {
      room = omega (arith, l.invariant.room, c.in_ok-value.ensures.onward.0);
      onward = (omega (arith, l.invariant.onward.0, c.in_ok-value.ensures.onward.0), omega (arith, l.invariant.onward.1, c.in_ok-value.ensures.onward.1));
      whole = l.invariant.whole
          ∙ each_on c.args.registry.now c.args.depth _ _ _ _ _ _ _ _ _ next c.in_ok-value.ensures.passes;
    }

pub structure-returns-clause-passes : goal.structure-returns-clause-passes
structure-returns-clause-passes t c =
    let xs = c.args.fields.now in
    let l = c.loop-field in
    let none : drop l.field-index xs ≡ [] = drop_all l.field-index xs (omega arith) in
    tuple_on c.args.registry.now c.args.depth _ _ _ (field_shapes (map field_of xs)) _ _ _ c.in_ok-node.ensures.passes ∙ l.invariant.whole
    ∙ ap (λ ys. each c.args.registry.now c.args.depth (field_shapes (map field_of ys)) l.cursor.place l.cursor.nodes l.cursor.rest.now) none ∙ each_end c.args.registry.now c.args.depth _ _ _

-- ---- formats

pub value-returns-in-Scalar-Unit-clause-passes : goal.value-returns-in-Scalar-Unit-clause-passes
value-returns-in-Scalar-Unit-clause-passes t c =
    passes_here c.node.result _ (node_here) c.args.cursor.now c.node.new.cursor
    (past_scalar c.args.registry.now c.args.depth c.args.format.now c.in-Scalar-Unit.field-0 _ (shape_seen c.args.format.now c.kind.result _ c.kind.ensures c.in-Scalar-Unit.is) c.in-Scalar-Unit.field-0-is)
    c.node.ensures.passes

pub value-returns-in-Scalar-Bool-clause-passes : goal.value-returns-in-Scalar-Bool-clause-passes
value-returns-in-Scalar-Bool-clause-passes t c =
    passes_here c.truth.result _ (truth_here) c.args.cursor.now c.truth.new.cursor
    (past_scalar c.args.registry.now c.args.depth c.args.format.now c.in-Scalar-Bool.field-0 _ (shape_seen c.args.format.now c.kind.result _ c.kind.ensures c.in-Scalar-Bool.is) c.in-Scalar-Bool.field-0-is)
    c.truth.ensures.passes

pub value-returns-in-Scalar-Whole-clause-passes : goal.value-returns-in-Scalar-Whole-clause-passes
value-returns-in-Scalar-Whole-clause-passes t c =
    passes_here c.whole.result _ (whole_here c.byte_len.result) c.args.cursor.now c.whole.new.cursor
    (λ p m b. past_scalar c.args.registry.now c.args.depth c.args.format.now c.in-Scalar-Whole.field-0 _ (shape_seen c.args.format.now c.kind.result _ c.kind.ensures c.in-Scalar-Whole.is) c.in-Scalar-Whole.field-0-is p m b ∙ ap (λ n. whole_here n p m b) (sym c.byte_len.ensures))
    c.whole.ensures.passes

pub value-returns-in-Scalar-Unsupported-clause-passes : goal.value-returns-in-Scalar-Unsupported-clause-passes
value-returns-in-Scalar-Unsupported-clause-passes t c =
    passes_here c.unsupported.result _ (unsupported_here) c.args.cursor.now c.unsupported.new.cursor
    (past_scalar c.args.registry.now c.args.depth c.args.format.now c.in-Scalar-Unsupported.field-0 _ (shape_seen c.args.format.now c.kind.result _ c.kind.ensures c.in-Scalar-Unsupported.is) c.in-Scalar-Unsupported.field-0-is)
    c.unsupported.ensures.passes

pub value-returns-in-Scalar-Str-clause-passes : goal.value-returns-in-Scalar-Str-clause-passes
value-returns-in-Scalar-Str-clause-passes t c =
    passes_here c.text_value.result _ (text_past) c.args.cursor.now c.text_value.new.cursor
    (past_scalar c.args.registry.now c.args.depth c.args.format.now c.in-Scalar-Str.field-0 _ (shape_seen c.args.format.now c.kind.result _ c.kind.ensures c.in-Scalar-Str.is) c.in-Scalar-Str.field-0-is)
    c.text_value.ensures.passes

pub value-returns-in-Scalar-Bytes-clause-passes : goal.value-returns-in-Scalar-Bytes-clause-passes
value-returns-in-Scalar-Bytes-clause-passes t c =
    passes_here c.bytes_value.result _ (bytes_past) c.args.cursor.now c.bytes_value.new.cursor
    (past_scalar c.args.registry.now c.args.depth c.args.format.now c.in-Scalar-Bytes.field-0 _ (shape_seen c.args.format.now c.kind.result _ c.kind.ensures c.in-Scalar-Bytes.is) c.in-Scalar-Bytes.field-0-is)
    c.bytes_value.ensures.passes

pub value-returns-in_err-flag_value-in-Opt-clause-passes : goal.value-returns-in_err-flag_value-in-Opt-clause-passes
value-returns-in_err-flag_value-in-Opt-clause-passes t c =
    let p = err_from_is_err_and c.from_residual.result c.from_residual.ensures.1 in
    rw (p.1, p.2, shape_seen c.args.format.now c.kind.result _ c.kind.ensures c.in-Opt.is) (option_stop c.args.registry.now c.args.depth _ _ _ (shape_of c.in-Opt.content.now) _ c.in_err-flag_value-in-Opt.ensures.passes)

pub value-returns-then-branch-clause-passes : goal.value-returns-then-branch-clause-passes
value-returns-then-branch-clause-passes t c =
    let r = c.args.registry.now in
    let d = c.args.depth in
    let at = c.args.cursor.now in
    let on = c.flag_value.new.cursor in
    passes_from (λ x. x) c.value.result _ (skip r d (shape_of c.in-Opt.content.now)) at on c.value.new.cursor
    (ap (λ s. skip r d s at.place at.nodes at.rest.now) (shape_seen c.args.format.now c.kind.result _ c.kind.ensures c.in-Opt.is)
    ∙ option_some r d at.place at.nodes at.rest.now (shape_of c.in-Opt.content.now) _ on.place on.nodes on.rest.now c.in_ok-flag_value-in-Opt.ensures.passes c.if-branch.true)
    c.value.ensures.passes

pub value-returns-else-branch-clause-passes : goal.value-returns-else-branch-clause-passes
value-returns-else-branch-clause-passes t c =
    rw (shape_seen c.args.format.now c.kind.result _ c.kind.ensures c.in-Opt.is) (option_none c.args.registry.now c.args.depth _ _ _ (shape_of c.in-Opt.content.now) _ _ _ _ c.in_ok-flag_value-in-Opt.ensures.passes c.if-branch.false)

pub value-returns-in_err-count-in-Seq-clause-passes : goal.value-returns-in_err-count-in-Seq-clause-passes
value-returns-in_err-count-in-Seq-clause-passes t c =
    let p = err_from_is_err_and c.from_residual-in_err-count-in-Seq.result c.from_residual-in_err-count-in-Seq.ensures.1 in
    rw (p.1, p.2, shape_seen c.args.format.now c.kind.result _ c.kind.ensures c.in-Seq.is) (list_stop c.args.registry.now c.args.depth _ _ _ (shape_of c.in-Seq.element.now) _ c.in_err-count-in-Seq.ensures.passes)

pub value-returns-in_ok-count-in-Seq-clause-passes : goal.value-returns-in_ok-count-in-Seq-clause-passes
value-returns-in_ok-count-in-Seq-clause-passes t c =
    let r = c.args.registry.now in
    let d = c.args.depth in
    let at = c.args.cursor.now in
    let on = c.counted.new.cursor in
    let n = c.in_ok-count-in-Seq.count in
    let s : Shape = shape_of c.in-Seq.element.now in
    passes_from (λ x. x) c.elements.result _ (items_here skipping (skip r d s) c.from.result) at on c.elements.new.cursor
    (ap (λ s. skip r d s at.place at.nodes at.rest.now) (shape_seen c.args.format.now c.kind.result _ c.kind.ensures c.in-Seq.is)
    ∙ list_on r d at.place at.nodes at.rest.now s n on.place on.nodes on.rest.now c.in_ok-count-in-Seq.ensures.passes
    ∙ ap (λ k. items_here skipping (skip r d s) k on.place on.nodes on.rest.now) (sym c.from.ensures))
    c.elements.ensures.passes

pub value-returns-in_err-count-in-Map-clause-passes : goal.value-returns-in_err-count-in-Map-clause-passes
value-returns-in_err-count-in-Map-clause-passes t c =
    let p = err_from_is_err_and c.from_residual-in_err-count-in-Map.result c.from_residual-in_err-count-in-Map.ensures.1 in
    rw (p.1, p.2, shape_seen c.args.format.now c.kind.result _ c.kind.ensures c.in-Map.is) (map_stop c.args.registry.now c.args.depth _ _ _ (shape_of c.in-Map.key.now) (shape_of c.in-Map.content.now) _ c.in_err-count-in-Map.ensures.passes)

pub value-returns-in_ok-count-in-Map-clause-passes : goal.value-returns-in_ok-count-in-Map-clause-passes
value-returns-in_ok-count-in-Map-clause-passes t c =
    let r = c.args.registry.now in
    let d = c.args.depth in
    let at = c.args.cursor.now in
    let on = c.counted-in-Map.new.cursor in
    let k : Shape = shape_of c.in-Map.key.now in
    let v : Shape = shape_of c.in-Map.content.now in
    let n = c.in_ok-count-in-Map.count in
    passes_from (λ x. x) c.entries.result _ (pairs_here skipping (skip r d k) (skip r d v) None n) at on c.entries.new.cursor
    (ap (λ s. skip r d s at.place at.nodes at.rest.now) (shape_seen c.args.format.now c.kind.result _ c.kind.ensures c.in-Map.is)
    ∙ map_on r d at.place at.nodes at.rest.now k v n on.place on.nodes on.rest.now c.in_ok-count-in-Map.ensures.passes)
    c.entries.ensures.passes

pub value-returns-in_err-node-in-TupleArray-clause-passes : goal.value-returns-in_err-node-in-TupleArray-clause-passes
value-returns-in_err-node-in-TupleArray-clause-passes t c =
    let p = err_from_is_err_and c.from_residual-in_err-node-in-TupleArray.result c.from_residual-in_err-node-in-TupleArray.ensures.1 in
    rw (p.1, p.2, shape_seen c.args.format.now c.kind.result _ c.kind.ensures c.in-TupleArray.is) (array_stop c.args.registry.now c.args.depth _ _ _ (shape_of c.in-TupleArray.element.now) c.in-TupleArray.size _ c.in_err-node-in-TupleArray.ensures.passes)

pub value-returns-in_ok-node-in-TupleArray-clause-passes : goal.value-returns-in_ok-node-in-TupleArray-clause-passes
value-returns-in_ok-node-in-TupleArray-clause-passes t c =
    let r = c.args.registry.now in
    let d = c.args.depth in
    let at = c.args.cursor.now in
    let on = c.node-in-TupleArray.new.cursor in
    let s : Shape = shape_of c.in-TupleArray.element.now in
    let n = c.in-TupleArray.size in
    passes_from (λ x. x) c.elements-in-TupleArray.result _ (items_here skipping (skip r d s) n) at on c.elements-in-TupleArray.new.cursor
    (ap (λ s. skip r d s at.place at.nodes at.rest.now) (shape_seen c.args.format.now c.kind.result _ c.kind.ensures c.in-TupleArray.is)
    ∙ array_on r d at.place at.nodes at.rest.now s n on.place on.nodes on.rest.now c.in_ok-node-in-TupleArray.ensures.passes)
    c.elements-in-TupleArray.ensures.passes
