use Rattle.bcs_explain.proofs.Prelude.{◌≡◌, ℕ, List, ◌∙◌, take, ◌-◌, ◌≤◌, suc, [], Err, None, drop, map, ap, ap₂, sym, refl, arith, rules, drop_all, err_from_is_err_and, scalar_shape, Shape, tuple_shape, shape_seen, Entries, Content, of, one_of, no_content, content, field_shapes, payload_shape, content_at, choice_at, levels, shapes_levels, Container, VariantFormat, shape_of, formats_shapes, field_of, payload_of, choice_of, container_of, items_here, pairs_here, skipping, key_bytes, skip, whole_here, node_here, unit_is, passes_from, passes_here, option_stop, option_some, option_none, list_stop, list_on, map_stop, map_on, array_stop, array_on, items_stop, items_on, items_end, pairs_stop_key, pairs_stop_value, pairs_on, pairs_end, each, tuple_stop, tuple_on, each_end, each_stop, each_on, named_stop, named_on, content_past, content_shape, content_nothing, variant_stop, variant_unknown, variant_on, named_past, content_found, content_missing, choice_found, choice_missing, levels_in, field_levels_in, formats_next, fields_next, content_at-inside, choice_at-inside, Reason, scalar_past}
use Rattle.bcs_explain.proofs.ScalarParsing.{scalar_past_is, octets_are_items}
use Rattle.bcs_explain.proofs.Advancing.{advances_variant}
use Rattle.bcs_explain.proofs.Keys.{key_err, key_wrong, key_right}
use Rattle.bcs_explain.proofs.+walking.Goals as goal

content_as : (registry : Entries) (d p m : ℕ) (b : List ℕ) (k j : Container) → k ≡ j → content_past registry d (content (container_of k)) p m b ≡ content_past registry d (content (container_of j)) p m b
content_as registry d p m b k j is = ap (λ (x : Container). content_past registry d (content (container_of x)) p m b) is

pub walking::value-returns-in-Scalar-clause-passes : goal.walking::value-returns-in-Scalar-clause-passes
walking::value-returns-in-Scalar-clause-passes g t c =
    passes_here c.report_scalar.result _ (scalar_past (scalar_shape c.in-Scalar.scalar)) c.args.cursor.now c.report_scalar.new.cursor (scalar_past_is c.args.registry.now c.args.depth c.args.format.now c.in-Scalar.scalar (shape_seen c.args.format.now c.kind.result _ c.kind.ensures c.in-Scalar.is)) c.report_scalar.ensures.passes

pub walking::value-named-requires : goal.walking::value-named-requires
walking::value-named-requires g t c κs within = (omega arith, (within, c.requires.room))

pub walking::value-returns-in-Opt-clause-passes : goal.walking::value-returns-in-Opt-clause-passes
walking::value-returns-in-Opt-clause-passes g t c =
    passes_here c.option.result _ _ c.args.cursor.now c.option.new.cursor
    (λ p m b. ap (λ (s : Shape). skip c.args.registry.now c.args.depth s p m b) (shape_seen c.args.format.now c.kind.result _ c.kind.ensures c.in-Opt.is))
    c.option.ensures.passes

pub walking::value-returns-in-Seq-clause-passes : goal.walking::value-returns-in-Seq-clause-passes
walking::value-returns-in-Seq-clause-passes g t c =
    passes_here c.list.result _ _ c.args.cursor.now c.list.new.cursor
    (λ p m b. ap (λ (s : Shape). skip c.args.registry.now c.args.depth s p m b) (shape_seen c.args.format.now c.kind.result _ c.kind.ensures c.in-Seq.is))
    c.list.ensures.passes

pub walking::value-returns-in-Map-clause-passes : goal.walking::value-returns-in-Map-clause-passes
walking::value-returns-in-Map-clause-passes g t c =
    passes_here c.map.result _ _ c.args.cursor.now c.map.new.cursor
    (λ p m b. ap (λ (s : Shape). skip c.args.registry.now c.args.depth s p m b) (shape_seen c.args.format.now c.kind.result _ c.kind.ensures c.in-Map.is))
    c.map.ensures.passes

pub walking::value-returns-in-TupleArray-clause-passes : goal.walking::value-returns-in-TupleArray-clause-passes
walking::value-returns-in-TupleArray-clause-passes g t c =
    passes_here c.array.result _ _ c.args.cursor.now c.array.new.cursor
    (λ p m b. ap (λ (s : Shape). skip c.args.registry.now c.args.depth s p m b) (shape_seen c.args.format.now c.kind.result _ c.kind.ensures c.in-TupleArray.is))
    c.array.ensures.passes

pub walking::option-returns-in_err-report_option_tag-clause-passes : goal.walking::option-returns-in_err-report_option_tag-clause-passes
walking::option-returns-in_err-report_option_tag-clause-passes g t c =
    let p = err_from_is_err_and c.from_residual.result c.from_residual.ensures.1 in
    rw (p.1, p.2) (option_stop c.args.registry.now c.args.depth _ _ _ (shape_of c.args.content.now) _ c.in_err-report_option_tag.ensures.passes)

pub walking::option-returns-then-branch-clause-passes : goal.walking::option-returns-then-branch-clause-passes
walking::option-returns-then-branch-clause-passes g t c =
    let on = c.report_option_tag.new.cursor in
    passes_from (λ x. x) c.value.result _ (skip c.args.registry.now c.args.depth (shape_of c.args.content.now)) c.args.cursor.now on c.value.new.cursor
    (option_some c.args.registry.now c.args.depth _ _ _ (shape_of c.args.content.now) _ on.place on.nodes on.rest.now c.in_ok-report_option_tag.ensures.passes c.if-branch.true)
    c.value.ensures.passes

pub walking::option-returns-else-branch-clause-passes : goal.walking::option-returns-else-branch-clause-passes
walking::option-returns-else-branch-clause-passes g t c =
    option_none c.args.registry.now c.args.depth _ _ _ (shape_of c.args.content.now) _ _ _ _ c.in_ok-report_option_tag.ensures.passes c.if-branch.false

pub sequences::list-returns-in_err-count-clause-passes : goal.sequences::list-returns-in_err-count-clause-passes
sequences::list-returns-in_err-count-clause-passes g t c =
    let p = err_from_is_err_and c.from_residual.result c.from_residual.ensures.1 in
    rw (p.1, p.2) (list_stop c.args.registry.now c.args.depth _ _ _ (shape_of c.args.element.now) _ c.in_err-count.ensures.passes)

pub sequences::list-returns-clause-passes : goal.sequences::list-returns-clause-passes
sequences::list-returns-clause-passes g t c =
    let on = c.report_length.new.cursor in
    let s = shape_of c.args.element.now in
    passes_from (λ x. x) c.elements.result _ (items_here skipping (skip c.args.registry.now c.args.depth s) c.from.result) c.args.cursor.now on c.elements.new.cursor
    (list_on c.args.registry.now c.args.depth _ _ _ s c.in_ok-count.count on.place on.nodes on.rest.now c.in_ok-count.ensures.passes
    ∙ ap (λ k. items_here skipping (skip c.args.registry.now c.args.depth s) k on.place on.nodes on.rest.now) (sym c.from.ensures))
    c.elements.ensures.passes

pub sequences::array-returns-in_err-node-clause-passes : goal.sequences::array-returns-in_err-node-clause-passes
sequences::array-returns-in_err-node-clause-passes g t c =
    let p = err_from_is_err_and c.from_residual.result c.from_residual.ensures.1 in
    rw (p.1, p.2) (array_stop c.args.registry.now c.args.depth _ _ _ (shape_of c.args.run.element.now) c.args.run.count _ c.in_err-node.ensures.passes)

pub sequences::array-returns-clause-passes : goal.sequences::array-returns-clause-passes
sequences::array-returns-clause-passes g t c =
    let on = c.node.new.cursor in
    let s = shape_of c.args.run.element.now in
    passes_from (λ x. x) c.elements.result _ (items_here skipping (skip c.args.registry.now c.args.depth s) c.args.run.count) c.args.cursor.now on c.elements.new.cursor
    (array_on c.args.registry.now c.args.depth _ _ _ s c.args.run.count on.place on.nodes on.rest.now c.in_ok-node.ensures.passes)
    c.elements.ensures.passes

pub sequences::elements-returns-then-is_octet-clause-passes : goal.sequences::elements-returns-then-is_octet-clause-passes
sequences::elements-returns-then-is_octet-clause-passes g t c =
    let is = c.is_octet.ensures c.if-is_octet.true in
    passes_here c.report_octets.result _ (items_here skipping (whole_here 1) c.args.run.count) c.args.cursor.now c.report_octets.new.cursor
    (λ p m b. sym (octets_are_items c.args.registry.now c.args.depth (shape_of c.args.run.element.now) is c.args.run.count p m b)) c.report_octets.ensures.passes

pub sequences::elements-returns-else-is_octet-clause-passes : goal.sequences::elements-returns-else-is_octet-clause-passes
sequences::elements-returns-else-is_octet-clause-passes g t c =
    passes_from (λ x. x) c.elements_from.result _ (items_here skipping (skip c.args.registry.now c.args.depth (shape_of c.args.run.element.now)) (c.args.run.count - c.skip_empty_elements-skipped.result)) c.args.cursor.now c.skip_empty_elements-skipped.new.cursor c.elements_from.new.cursor
    c.skip_empty_elements-skipped.ensures.whole c.elements_from.ensures.passes

pub sequences::elements_from-loop-i-init : goal.sequences::elements_from-loop-i-init
sequences::elements_from-loop-i-init g t c =
    record {
      room = c.requires.room;
      onward = (refl, omega arith);
      whole = refl;
      covers = λ input h. h;
    }

pub sequences::elements_from-value-requires : goal.sequences::elements_from-value-requires
sequences::elements_from-value-requires g t c κs within =
    (omega arith, (within, c.loop-i.invariant.room))

pub sequences::elements_from-returns-in_err-value-clause-passes : goal.sequences::elements_from-returns-in_err-value-clause-passes
sequences::elements_from-returns-in_err-value-clause-passes g t c =
    let p = err_from_is_err_and c.from_residual.result c.from_residual.ensures.1 in
    rw (p.1, p.2) (c.loop-i.invariant.whole ∙ items_stop (skip c.args.registry.now c.args.depth (shape_of c.args.run.element.now)) c.args.run.count c.loop-i.i _ _ _ _ c.loop-i-test.true c.in_err-value.ensures.passes)

pub sequences::elements_from-returns-in_err-value-clause-onward : goal.sequences::elements_from-returns-in_err-value-clause-onward
sequences::elements_from-returns-in_err-value-clause-onward g t c =
    (omega (arith, c.loop-i.invariant.onward.0, c.in_err-value.ensures.onward.0), omega (arith, c.loop-i.invariant.onward.1, c.in_err-value.ensures.onward.1))

pub sequences::elements_from-loop-i-preserved : goal.sequences::elements_from-loop-i-preserved
sequences::elements_from-loop-i-preserved g t c =
    record {
      room = omega (arith, c.loop-i.invariant.room, c.in_ok-value.ensures.onward.0);
      onward = (omega (arith, c.loop-i.invariant.onward.0, c.in_ok-value.ensures.onward.0), omega (arith, c.loop-i.invariant.onward.1, c.in_ok-value.ensures.onward.1));
      whole = c.loop-i.invariant.whole ∙ items_on (skip c.args.registry.now c.args.depth (shape_of c.args.run.element.now)) c.args.run.count c.loop-i.i _ _ _ _ _ _ c.loop-i-test.true c.in_ok-value.ensures.passes;
      covers = λ input h. c.in_ok-value.ensures.covers input (c.loop-i.invariant.covers input h);
    }

pub sequences::elements_from-returns-clause-passes : goal.sequences::elements_from-returns-clause-passes
sequences::elements_from-returns-clause-passes g t c =
    c.loop-i.invariant.whole ∙ items_end (skip c.args.registry.now c.args.depth (shape_of c.args.run.element.now)) c.args.run.count c.loop-i.i _ _ _ c.loop-i-test.false

pub sequences::elements_from-returns-clause-onward : goal.sequences::elements_from-returns-clause-onward
sequences::elements_from-returns-clause-onward g t c =
    c.loop-i.invariant.onward

pub maps::map-returns-in_err-count-clause-passes : goal.maps::map-returns-in_err-count-clause-passes
maps::map-returns-in_err-count-clause-passes g t c =
    let p = err_from_is_err_and c.from_residual.result c.from_residual.ensures.1 in
    rw (p.1, p.2) (map_stop c.args.registry.now c.args.depth _ _ _ (shape_of c.args.entry.key.now) (shape_of c.args.entry.content.now) _ c.in_err-count.ensures.passes)

pub maps::map-returns-clause-passes : goal.maps::map-returns-clause-passes
maps::map-returns-clause-passes g t c =
    let on = c.report_length.new.cursor in
    let k = shape_of c.args.entry.key.now in
    let v = shape_of c.args.entry.content.now in
    passes_from (λ x. x) c.entries.result _ (pairs_here skipping (skip c.args.registry.now c.args.depth k) (skip c.args.registry.now c.args.depth v) None c.in_ok-count.count) c.args.cursor.now on c.entries.new.cursor
    (map_on c.args.registry.now c.args.depth _ _ _ k v c.in_ok-count.count on.place on.nodes on.rest.now c.in_ok-count.ensures.passes)
    c.entries.ensures.passes

pub maps::entries-loop-i-init : goal.maps::entries-loop-i-init
maps::entries-loop-i-init g t c =
    let k : c.args.run.count - 0 ≡ c.args.run.count = omega arith in
    record {
      room = c.requires.room;
      onward = (refl, omega arith);
      whole = rw k refl;
      covers = λ input h. h;
    }

pub maps::entries-value-requires : goal.maps::entries-value-requires
maps::entries-value-requires g t c κs within =
    (omega arith, (within, c.loop-i.invariant.room))

pub maps::entries-returns-in_err-value-clause-passes : goal.maps::entries-returns-in_err-value-clause-passes
maps::entries-returns-in_err-value-clause-passes g t c =
    let p = err_from_is_err_and c.from_residual.result c.from_residual.ensures.1 in
    rw (p.1, p.2) (c.loop-i.invariant.whole ∙ pairs_stop_key (skip c.args.registry.now c.args.depth (shape_of c.args.run.key.now)) (skip c.args.registry.now c.args.depth (shape_of c.args.run.content.now)) (key_bytes c.loop-i.last) c.args.run.count c.loop-i.i _ _ _ _ c.loop-i-test.true (key_err (skip c.args.registry.now c.args.depth (shape_of c.args.run.key.now)) (key_bytes c.loop-i.last) _ _ _ _ c.in_err-value.ensures.passes))

pub maps::entries-returns-in_err-value-clause-onward : goal.maps::entries-returns-in_err-value-clause-onward
maps::entries-returns-in_err-value-clause-onward g t c =
    (omega (arith, c.loop-i.invariant.onward.0, c.in_err-value.ensures.onward.0), omega (arith, c.loop-i.invariant.onward.1, c.in_err-value.ensures.onward.1))

pub maps::entries-returns-in_err-follows-clause-passes : goal.maps::entries-returns-in_err-follows-clause-passes
maps::entries-returns-in_err-follows-clause-passes g t c =
    let p = err_from_is_err_and c.from_residual-in_err-follows.result c.from_residual-in_err-follows.ensures.1 in
    rw (p.1, p.2) (c.loop-i.invariant.whole ∙ pairs_stop_key (skip c.args.registry.now c.args.depth (shape_of c.args.run.key.now)) (skip c.args.registry.now c.args.depth (shape_of c.args.run.content.now)) (key_bytes c.loop-i.last) c.args.run.count c.loop-i.i _ _ _ _ c.loop-i-test.true (key_wrong (skip c.args.registry.now c.args.depth (shape_of c.args.run.key.now)) (key_bytes c.loop-i.last) _ _ _ tt _ _ _ c.split_at.result.0.now _ c.in_ok-value.ensures.passes c.split_at.ensures.front c.in_err-follows.ensures.validates))

pub maps::entries-returns-in_err-follows-clause-onward : goal.maps::entries-returns-in_err-follows-clause-onward
maps::entries-returns-in_err-follows-clause-onward g t c =
    (omega (arith, c.loop-i.invariant.onward.0, c.in_ok-value.ensures.onward.0), omega (arith, c.loop-i.invariant.onward.1, c.in_ok-value.ensures.onward.1))

pub maps::entries-value-requires-in-loop-i : goal.maps::entries-value-requires-in-loop-i
maps::entries-value-requires-in-loop-i g t c κs within =
    (omega arith, (within, omega (arith, c.loop-i.invariant.room, c.in_ok-value.ensures.onward.0)))

pub maps::entries-returns-in_err-value-2-clause-passes : goal.maps::entries-returns-in_err-value-2-clause-passes
maps::entries-returns-in_err-value-2-clause-passes g t c =
    let p = err_from_is_err_and c.from_residual-in_err-value-2.result c.from_residual-in_err-value-2.ensures.1 in
    rw (p.1, p.2) (c.loop-i.invariant.whole ∙ pairs_stop_value (skip c.args.registry.now c.args.depth (shape_of c.args.run.key.now)) (skip c.args.registry.now c.args.depth (shape_of c.args.run.content.now)) (key_bytes c.loop-i.last) c.args.run.count c.loop-i.i _ _ _ c.split_at.result.0.now _ _ _ _ c.loop-i-test.true (key_right (skip c.args.registry.now c.args.depth (shape_of c.args.run.key.now)) (key_bytes c.loop-i.last) _ _ _ tt _ _ _ c.split_at.result.0.now c.in_ok-value.ensures.passes c.split_at.ensures.front c.in_ok-follows.ensures.validates) c.in_err-value-2.ensures.passes)

pub maps::entries-returns-in_err-value-2-clause-onward : goal.maps::entries-returns-in_err-value-2-clause-onward
maps::entries-returns-in_err-value-2-clause-onward g t c =
    (omega (arith, c.loop-i.invariant.onward.0, c.in_ok-value.ensures.onward.0, c.in_err-value-2.ensures.onward.0), omega (arith, c.loop-i.invariant.onward.1, c.in_ok-value.ensures.onward.1, c.in_err-value-2.ensures.onward.1))

pub maps::entries-loop-i-preserved : goal.maps::entries-loop-i-preserved
maps::entries-loop-i-preserved g t c =
    record {
      room = omega (arith, c.loop-i.invariant.room, c.in_ok-value.ensures.onward.0, c.in_ok-value-2.ensures.onward.0);
      onward = (omega (arith, c.loop-i.invariant.onward.0, c.in_ok-value.ensures.onward.0, c.in_ok-value-2.ensures.onward.0), omega (arith, c.loop-i.invariant.onward.1, c.in_ok-value.ensures.onward.1, c.in_ok-value-2.ensures.onward.1));
      whole = c.loop-i.invariant.whole ∙ pairs_on (skip c.args.registry.now c.args.depth (shape_of c.args.run.key.now)) (skip c.args.registry.now c.args.depth (shape_of c.args.run.content.now)) (key_bytes c.loop-i.last) c.args.run.count c.loop-i.i _ _ _ c.split_at.result.0.now _ _ _ _ _ _ c.loop-i-test.true (key_right (skip c.args.registry.now c.args.depth (shape_of c.args.run.key.now)) (key_bytes c.loop-i.last) _ _ _ tt _ _ _ c.split_at.result.0.now c.in_ok-value.ensures.passes c.split_at.ensures.front c.in_ok-follows.ensures.validates) c.in_ok-value-2.ensures.passes;
      covers = λ input h.
          (let key = c.in_ok-value.ensures.covers input (c.loop-i.invariant.covers input h) in
          c.in_ok-value-2.ensures.covers input (key.0, key.1, c.in_ok-follows.ensures.halts (take c.value.new.cursor.place input) key.2));
    }

pub maps::entries-returns-clause-passes : goal.maps::entries-returns-clause-passes
maps::entries-returns-clause-passes g t c =
    c.loop-i.invariant.whole ∙ pairs_end (skip c.args.registry.now c.args.depth (shape_of c.args.run.key.now)) (skip c.args.registry.now c.args.depth (shape_of c.args.run.content.now)) (key_bytes c.loop-i.last) c.args.run.count c.loop-i.i _ _ _ c.loop-i-test.false

pub maps::entries-returns-clause-onward : goal.maps::entries-returns-clause-onward
maps::entries-returns-clause-onward g t c =
    c.loop-i.invariant.onward

pub sequences::tuple-returns-in_err-node-clause-passes : goal.sequences::tuple-returns-in_err-node-clause-passes
sequences::tuple-returns-in_err-node-clause-passes g t c =
    let p = err_from_is_err_and c.from_residual.result c.from_residual.ensures.1 in
    rw (p.1, p.2) (tuple_stop c.args.registry.now c.args.depth _ _ _ (formats_shapes c.args.formats.now) _ c.in_err-node.ensures.passes)

pub sequences::tuple-loop-i-init : goal.sequences::tuple-loop-i-init
sequences::tuple-loop-i-init g t c =
    record {
      room = search rules;
      onward = (refl, omega arith);
      whole = refl;
      covers = λ input h. h;
    }

pub sequences::tuple-value-requires : goal.sequences::tuple-value-requires
sequences::tuple-value-requires g t c κs within =
    let l = c.loop-i in
    let low = levels_in c.args.formats.now l.i c.index-formats-i.result (omega arith) c.index-formats-i.is in
    (omega (arith, low), (within, l.invariant.room))

pub sequences::tuple-returns-in_err-value-clause-passes : goal.sequences::tuple-returns-in_err-value-clause-passes
sequences::tuple-returns-in_err-value-clause-passes g t c =
    let p = err_from_is_err_and c.from_residual-in_err-value.result c.from_residual-in_err-value.ensures.1 in
    let xs = c.args.formats.now in
    let l = c.loop-i in
    let x = c.index-formats-i.result in
    let next = formats_next xs l.i x (omega arith) c.index-formats-i.is in
    rw (p.1, p.2)
    (tuple_on c.args.registry.now c.args.depth _ _ _ (formats_shapes xs) _ _ _ c.in_ok-node.ensures.passes ∙ l.invariant.whole
    ∙ each_stop c.args.registry.now c.args.depth _ _ _ _ _ _ _ next c.in_err-value.ensures.passes)

pub sequences::tuple-returns-in_err-value-clause-onward : goal.sequences::tuple-returns-in_err-value-clause-onward
sequences::tuple-returns-in_err-value-clause-onward g t c =
    (omega (arith, c.in_ok-node.ensures.onward.0, c.loop-i.invariant.onward.0, c.in_err-value.ensures.onward.0), omega (arith, c.in_ok-node.ensures.onward.1, c.loop-i.invariant.onward.1, c.in_err-value.ensures.onward.1))

pub sequences::tuple-loop-i-preserved : goal.sequences::tuple-loop-i-preserved
sequences::tuple-loop-i-preserved g t c =
    let xs = c.args.formats.now in
    let l = c.loop-i in
    let x = c.index-formats-i.result in
    let next_shape = formats_next xs l.i x (omega arith) c.index-formats-i.is in
    let next = formats_next c.args.formats.now l.i c.index-formats-i.result (omega arith) c.index-formats-i.is in
    record {
      room = omega (arith, l.invariant.room, c.in_ok-value.ensures.onward.0);
      onward = (omega (arith, l.invariant.onward.0, c.in_ok-value.ensures.onward.0), omega (arith, l.invariant.onward.1, c.in_ok-value.ensures.onward.1));
      whole = l.invariant.whole ∙ each_on c.args.registry.now c.args.depth _ _ _ _ _ _ _ _ _ next_shape c.in_ok-value.ensures.passes;
      covers = λ input h. c.in_ok-value.ensures.covers input (c.loop-i.invariant.covers input h);
    }

pub sequences::tuple-returns-clause-passes : goal.sequences::tuple-returns-clause-passes
sequences::tuple-returns-clause-passes g t c =
    let xs = c.args.formats.now in
    let l = c.loop-i in
    let none : drop l.i xs ≡ [] = drop_all l.i xs (omega arith) in
    tuple_on c.args.registry.now c.args.depth _ _ _ (formats_shapes xs) _ _ _ c.in_ok-node.ensures.passes ∙ l.invariant.whole
    ∙ ap (λ ys. each c.args.registry.now c.args.depth (formats_shapes ys) l.cursor.place l.cursor.nodes l.cursor.rest.now) none ∙ each_end c.args.registry.now c.args.depth _ _ _

pub sequences::tuple-returns-clause-onward : goal.sequences::tuple-returns-clause-onward
sequences::tuple-returns-clause-onward g t c =
    (omega (arith, c.in_ok-node.ensures.onward.0, c.loop-i.invariant.onward.0), omega (arith, c.in_ok-node.ensures.onward.1, c.loop-i.invariant.onward.1))

pub containers::named-returns-in_err-enter-clause-passes : goal.containers::named-returns-in_err-enter-clause-passes
containers::named-returns-in_err-enter-clause-passes g t c =
    let p = err_from_is_err_and c.from_residual.result c.from_residual.ensures.1 in
    rw (p.1, p.2) (named_stop c.args.registry.now c.args.name.now _ _ _ c.args.depth _ c.in_err-enter.ensures.passes)

pub containers::named-returns-in_default-clause-passes : goal.containers::named-returns-in_default-clause-passes
containers::named-returns-in_default-clause-passes g t c =
    let r = c.args.registry.now in
    let none : content_at c.args.name.now r ≡ no_content = content_missing r c.args.name.now c.container.result c.container.ensures.found c.in_default.is in
    named_on r c.args.name.now _ _ _ c.args.depth _ _ _ c.in_ok-enter.ensures.positive c.in_ok-enter.ensures.passes
    ∙ ap (λ (k : Content). content_past r (c.args.depth - 1) k c.enter.new.cursor.place c.enter.new.cursor.nodes c.enter.new.cursor.rest.now) none
    ∙ content_nothing r (c.args.depth - 1) c.enter.new.cursor.place c.enter.new.cursor.nodes c.enter.new.cursor.rest.now
    ∙ ap₂ (λ (x : Reason) (y : ℕ). Err (x, y)) (sym c.unknown_name.ensures.reason) (sym c.unknown_name.ensures.place)

pub containers::named-content-requires : goal.containers::named-content-requires
containers::named-content-requires g t c κs within = (
  omega (arith, c.in_ok-enter.ensures.positive),
  (
    within,
    (omega (arith, c.in_ok-enter.ensures.onward.0), ((c.args.name.now, content_found c.args.registry.now c.args.name.now c.container.result c.in-Some.container c.container.ensures.found c.in-Some.is), c.container.ensures.well_formed)),
  ),
)

pub containers::named-returns-clause-passes : goal.containers::named-returns-clause-passes
containers::named-returns-clause-passes g t c =
    let r = c.args.registry.now in
    let at = c.enter.new.cursor in
    passes_from (λ x. x) c.content.result _ (content_past r (c.args.depth - 1) (content (container_of c.in-Some.container.now))) c.args.cursor.now at c.content.new.cursor
    (named_past r c.args.name.now _ _ _ c.args.depth _ _ _ c.in-Some.container.now c.in_ok-enter.ensures.positive c.in_ok-enter.ensures.passes (content_found r c.args.name.now c.container.result c.in-Some.container c.container.ensures.found c.in-Some.is))
    c.content.ensures.passes

pub containers::content-value-requires : goal.containers::content-value-requires
containers::content-value-requires g t c κs within =
    let r = c.args.registry.now in
    let s : Shape = shape_of c.in-NewTypeStruct.format in
    let is : content_at c.requires.found.0 r ≡ of s = c.requires.found.1 ∙ ap (λ k. content (container_of k)) c.in-NewTypeStruct.is in
    let low : levels s ≤ 33 = (content_at-inside r c.requires.well_formed c.requires.found.0 s is).1 in
    (omega (arith, low), (within, c.requires.room))

pub containers::content-tuple-requires : goal.containers::content-tuple-requires
containers::content-tuple-requires g t c κs within =
    let r = c.args.registry.now in
    let ss = formats_shapes c.in-TupleStruct.formats.items in
    let is : content_at c.requires.found.0 r ≡ of (tuple_shape ss) = c.requires.found.1 ∙ ap (λ k. content (container_of k)) c.in-TupleStruct.is in
    let low : suc (shapes_levels ss) ≤ 33 = (content_at-inside r c.requires.well_formed c.requires.found.0 (tuple_shape ss) is).1 in
    let same : shapes_levels (formats_shapes c.deref.result.now) ≡ shapes_levels ss = ap (λ fs. shapes_levels (formats_shapes fs)) c.deref.ensures.value in
    (omega (arith, low, same), (within, c.requires.room))

pub containers::content-returns-in_err-start-in-Enum-clause-passes : goal.containers::content-returns-in_err-start-in-Enum-clause-passes
containers::content-returns-in_err-start-in-Enum-clause-passes g t c =
    let p = err_from_is_err_and c.from_residual.result c.from_residual.ensures.1 in
    let r = c.args.registry.now in
    let d = c.args.depth in
    let at = c.args.cursor.now in
    rw (p.1, p.2)
    (content_as r d at.place at.nodes at.rest.now c.args.container.now _ c.in-Enum.is
    ∙ variant_stop r d at.place at.nodes at.rest.now (map choice_of c.in-Enum.variants.entries) _ c.in_err-start-in-Enum.ensures.passes)

pub containers::content-payload-requires : goal.containers::content-payload-requires
containers::content-payload-requires g t c κs within =
    let r = c.args.registry.now in
    let cs = map choice_of c.in-Enum.variants.entries in
    let s : Shape = payload_shape (payload_of c.in-Some.variant.now.value) in
    let is : content_at c.requires.found.0 r ≡ one_of cs = c.requires.found.1 ∙ ap (λ k. content (container_of k)) c.in-Enum.is in
    let at : choice_at c.in_ok-start-in-Enum.number cs ≡ of s = choice_found c.in_ok-start-in-Enum.number c.in-Enum.variants.entries c.in-Some.variant c.variant_numbered.result c.variant_numbered.ensures c.in-Some.is in
    let low : levels s ≤ 33 = (choice_at-inside r c.requires.well_formed c.requires.found.0 cs is c.in_ok-start-in-Enum.number s at).1 in
    (omega (arith, low), (within, omega (arith, c.requires.room, c.in_ok-start-in-Enum.ensures.onward.0)))

pub containers::content-returns-in-UnitStruct-clause-passes : goal.containers::content-returns-in-UnitStruct-clause-passes
containers::content-returns-in-UnitStruct-clause-passes g t c =
    let r = c.args.registry.now in
    let d = c.args.depth in
    let at = c.args.cursor.now in
    passes_from (λ x. x) c.node.result _ node_here c.args.cursor.now at c.node.new.cursor
    (content_as r d at.place at.nodes at.rest.now c.args.container.now _ c.in-UnitStruct.is
    ∙ content_shape r d at.place at.nodes at.rest.now _ ∙ unit_is r d at.place at.nodes at.rest.now)
    c.node.ensures.passes

pub containers::content-returns-in-NewTypeStruct-clause-passes : goal.containers::content-returns-in-NewTypeStruct-clause-passes
containers::content-returns-in-NewTypeStruct-clause-passes g t c =
    let r = c.args.registry.now in
    let d = c.args.depth in
    let at = c.args.cursor.now in
    let s : Shape = shape_of c.in-NewTypeStruct.format in
    passes_from (λ x. x) c.value.result _ (skip r d s) c.args.cursor.now at c.value.new.cursor
    (content_as r d at.place at.nodes at.rest.now c.args.container.now _ c.in-NewTypeStruct.is
    ∙ content_shape r d at.place at.nodes at.rest.now s)
    c.value.ensures.passes

pub containers::content-returns-in-TupleStruct-clause-passes : goal.containers::content-returns-in-TupleStruct-clause-passes
containers::content-returns-in-TupleStruct-clause-passes g t c =
    let r = c.args.registry.now in
    let d = c.args.depth in
    let at = c.args.cursor.now in
    let s : Shape = tuple_shape (formats_shapes c.in-TupleStruct.formats.items) in
    passes_from (λ x. x) c.tuple.result _ (skip r d (tuple_shape (formats_shapes c.deref.result.now))) c.args.cursor.now at c.tuple.new.cursor
    (content_as r d at.place at.nodes at.rest.now c.args.container.now _ c.in-TupleStruct.is
    ∙ content_shape r d at.place at.nodes at.rest.now s
    ∙ ap (λ fs. skip r d (tuple_shape (formats_shapes fs)) at.place at.nodes at.rest.now) (sym c.deref.ensures.value))
    c.tuple.ensures.passes

pub containers::content-returns-in-Struct-clause-passes : goal.containers::content-returns-in-Struct-clause-passes
containers::content-returns-in-Struct-clause-passes g t c =
    let r = c.args.registry.now in
    let d = c.args.depth in
    let at = c.args.cursor.now in
    let s : Shape = tuple_shape (field_shapes (map field_of c.in-Struct.fields.items)) in
    passes_from (λ x. x) c.structure.result _ (skip r d (tuple_shape (field_shapes (map field_of c.deref-in-Struct.result.now)))) c.args.cursor.now at c.structure.new.cursor
    (content_as r d at.place at.nodes at.rest.now c.args.container.now _ c.in-Struct.is
    ∙ content_shape r d at.place at.nodes at.rest.now s
    ∙ ap (λ fs. skip r d (tuple_shape (field_shapes (map field_of fs))) at.place at.nodes at.rest.now) (sym c.deref-in-Struct.ensures.value))
    c.structure.ensures.passes

pub containers::content-returns-in-Some-clause-passes : goal.containers::content-returns-in-Some-clause-passes
containers::content-returns-in-Some-clause-passes g t c =
    let r = c.args.registry.now in
    let d = c.args.depth in
    let at = c.args.cursor.now in
    let cs = map choice_of c.in-Enum.variants.entries in
    let s : Shape = payload_shape (payload_of c.in-Some.variant.now.value) in
    let chosen : choice_at c.in_ok-start-in-Enum.number cs ≡ of s = choice_found c.in_ok-start-in-Enum.number c.in-Enum.variants.entries c.in-Some.variant c.variant_numbered.result c.variant_numbered.ensures c.in-Some.is in
    passes_from (λ x. x) c.payload.result _ (skip r d s) c.args.cursor.now c.variant_number.new.cursor c.payload.new.cursor
    (content_as r d at.place at.nodes at.rest.now c.args.container.now _ c.in-Enum.is
    ∙ variant_on r d at.place at.nodes at.rest.now cs c.in_ok-start-in-Enum.start c.in_ok-start-in-Enum.number _ _ _ s c.in_ok-start-in-Enum.ensures.passes chosen)
    c.payload.ensures.passes

pub containers::content-returns-in-None-clause-passes : goal.containers::content-returns-in-None-clause-passes
containers::content-returns-in-None-clause-passes g t c =
    let r = c.args.registry.now in
    let d = c.args.depth in
    let at = c.args.cursor.now in
    let cs = map choice_of c.in-Enum.variants.entries in
    let none : choice_at c.in_ok-start-in-Enum.number cs ≡ no_content = choice_missing c.in_ok-start-in-Enum.number c.in-Enum.variants.entries c.variant_numbered.result c.variant_numbered.ensures c.in-None.is in
    content_as r d at.place at.nodes at.rest.now c.args.container.now _ c.in-Enum.is
    ∙ variant_unknown r d at.place at.nodes at.rest.now cs c.in_ok-start-in-Enum.start c.in_ok-start-in-Enum.number _ _ _ c.in_ok-start-in-Enum.ensures.passes none
    ∙ ap₂ (λ (x : Reason) (y : ℕ). Err (x, y)) (sym c.unknown_variant.ensures.reason) (sym c.unknown_variant.ensures.place)

pub containers::content-structure-requires : goal.containers::content-structure-requires
containers::content-structure-requires g t c κs within =
    let r = c.args.registry.now in
    let ss = field_shapes (map field_of c.in-Struct.fields.items) in
    let is : content_at c.requires.found.0 r ≡ of (tuple_shape ss) = c.requires.found.1 ∙ ap (λ k. content (container_of k)) c.in-Struct.is in
    let low : suc (shapes_levels ss) ≤ 33 = (content_at-inside r c.requires.well_formed c.requires.found.0 (tuple_shape ss) is).1 in
    let same : shapes_levels (field_shapes (map field_of c.deref-in-Struct.result.now)) ≡ shapes_levels ss = ap (λ fs. shapes_levels (field_shapes (map field_of fs))) c.deref-in-Struct.ensures.value in
    (omega (arith, low, same), (within, c.requires.room))

pub containers::payload-value-requires : goal.containers::payload-value-requires
containers::payload-value-requires g t c κs within =
    let same = ap (λ (k : VariantFormat). levels (payload_shape (payload_of k))) c.in-NewType.is in
    (omega (arith, same), (within, c.requires.room))

pub containers::payload-tuple-requires : goal.containers::payload-tuple-requires
containers::payload-tuple-requires g t c κs within =
    let same = ap (λ (k : VariantFormat). levels (payload_shape (payload_of k))) c.in-Tuple.is in
    let here : shapes_levels (formats_shapes c.deref.result.now) ≡ shapes_levels (formats_shapes c.in-Tuple.formats.items) = ap (λ fs. shapes_levels (formats_shapes fs)) c.deref.ensures.value in
    (omega (arith, same, here), (within, c.requires.room))

pub containers::payload-returns-in-Unit-clause-passes : goal.containers::payload-returns-in-Unit-clause-passes
containers::payload-returns-in-Unit-clause-passes g t c =
    passes_here c.node.result _ node_here c.args.cursor.now c.node.new.cursor
    (λ p m b. ap (λ k. skip c.args.registry.now c.args.depth (payload_shape (payload_of k)) p m b) c.in-Unit.is ∙ unit_is c.args.registry.now c.args.depth p m b)
    c.node.ensures.passes

pub containers::structure-returns-in_err-node-clause-passes : goal.containers::structure-returns-in_err-node-clause-passes
containers::structure-returns-in_err-node-clause-passes g t c =
    let p = err_from_is_err_and c.from_residual.result c.from_residual.ensures.1 in
    rw (p.1, p.2) (tuple_stop c.args.registry.now c.args.depth _ _ _ (field_shapes (map field_of c.args.fields.now)) _ c.in_err-node.ensures.passes)

pub containers::structure-loop-i-init : goal.containers::structure-loop-i-init
containers::structure-loop-i-init g t c =
    record {
      room = search rules;
      onward = (refl, omega arith);
      whole = refl;
      covers = λ input h. h;
    }

pub containers::structure-value-requires : goal.containers::structure-value-requires
containers::structure-value-requires g t c κs within =
    let l = c.loop-i in
    let low = field_levels_in c.args.fields.now l.i c.index-fields-i.result (omega arith) c.index-fields-i.is in
    (omega (arith, low), (within, l.invariant.room))

pub containers::structure-returns-in_err-value-clause-passes : goal.containers::structure-returns-in_err-value-clause-passes
containers::structure-returns-in_err-value-clause-passes g t c =
    let p = err_from_is_err_and c.from_residual-in_err-value.result c.from_residual-in_err-value.ensures.1 in
    let xs = c.args.fields.now in
    let l = c.loop-i in
    let x = c.index-fields-i.result in
    let next = fields_next xs l.i x (omega arith) c.index-fields-i.is in
    rw (p.1, p.2)
    (tuple_on c.args.registry.now c.args.depth _ _ _ (field_shapes (map field_of xs)) _ _ _ c.in_ok-node.ensures.passes ∙ l.invariant.whole
    ∙ each_stop c.args.registry.now c.args.depth _ _ _ _ _ _ _ next c.in_err-value.ensures.passes)

pub containers::structure-returns-in_err-value-clause-onward : goal.containers::structure-returns-in_err-value-clause-onward
containers::structure-returns-in_err-value-clause-onward g t c =
    (omega (arith, c.in_ok-node.ensures.onward.0, c.loop-i.invariant.onward.0, c.in_err-value.ensures.onward.0), omega (arith, c.in_ok-node.ensures.onward.1, c.loop-i.invariant.onward.1, c.in_err-value.ensures.onward.1))

pub containers::structure-loop-i-preserved : goal.containers::structure-loop-i-preserved
containers::structure-loop-i-preserved g t c =
    let xs = c.args.fields.now in
    let l = c.loop-i in
    let x = c.index-fields-i.result in
    let next_shape = fields_next xs l.i x (omega arith) c.index-fields-i.is in
    record {
      room = omega (arith, l.invariant.room, c.in_ok-value.ensures.onward.0);
      onward = (omega (arith, l.invariant.onward.0, c.in_ok-value.ensures.onward.0), omega (arith, l.invariant.onward.1, c.in_ok-value.ensures.onward.1));
      whole = l.invariant.whole ∙ each_on c.args.registry.now c.args.depth _ _ _ _ _ _ _ _ _ next_shape c.in_ok-value.ensures.passes;
      covers = λ input h. c.in_ok-value.ensures.covers input (c.loop-i.invariant.covers input h);
    }

pub containers::structure-returns-clause-passes : goal.containers::structure-returns-clause-passes
containers::structure-returns-clause-passes g t c =
    let xs = c.args.fields.now in
    let l = c.loop-i in
    let none : drop l.i xs ≡ [] = drop_all l.i xs (omega arith) in
    tuple_on c.args.registry.now c.args.depth _ _ _ (field_shapes (map field_of xs)) _ _ _ c.in_ok-node.ensures.passes ∙ l.invariant.whole
    ∙ ap (λ ys. each c.args.registry.now c.args.depth (field_shapes (map field_of ys)) l.cursor.place l.cursor.nodes l.cursor.rest.now) none ∙ each_end c.args.registry.now c.args.depth _ _ _

pub containers::structure-returns-clause-onward : goal.containers::structure-returns-clause-onward
containers::structure-returns-clause-onward g t c =
    (omega (arith, c.in_ok-node.ensures.onward.0, c.loop-i.invariant.onward.0), omega (arith, c.in_ok-node.ensures.onward.1, c.loop-i.invariant.onward.1))

pub containers::content-report_piece-requires-clause-rest : goal.containers::content-report_piece-requires-clause-rest
containers::content-report_piece-requires-clause-rest g t c = (advances_variant _ _ _ _ _ _ _ c.in_ok-start-in-Enum.ensures.passes).1
