use Rattle.bcs_encode_impl.proofs.Prelude.{subst, sym, ap, ap₂, ◌≡◌, ◌∙◌, ◌++◌, ◌+◌, ℕ, List, [], Ok, Some, arith, drop, length, rules, map, drop_of_length-le, option_and_then, uleb, Content, of, content, content_at, field_shapes, payload_shape, Format, whole_shape, container_of, field_of, formats_shapes, payload_of, shape_of, Shape, name_shape, shape-Map, entries_pairs, items_trees, tree_of, Tree, Pairs, no_pairs, pair, named_tree, pairs_tree, Value, the_lemmas, chain, written, items_written, length_written, count_items, count_pairs, less, validated, all_validated, each_validated, span, Span}
use Rattle.bcs_encode_impl.proofs.Prelude.{append-nil, append_assoc, at_array, ◌∷◌, refl, Gives, GivesOn, plain, plain_items, plain_each, plain_pairs}
use Rattle.bcs_encode_impl.specs.Writing.{bytes_written}
use Rattle.bcs_encode_impl.proofs.GivenLaws.{appended_gives, entry_gives, gives_as_well, gives_begins, gives_ends, gives_on, item_plain, length_given, map_gives, numbers_given, same_ok, signed_given, some_appended_gives, at_name, bytes_given, bytes_plain, present_plain, some_gives, some_gives_as_well, some_then_gives, text_plain, then_gives, unsigned_given, variant_plain}
use Rattle.bcs_encode_impl.proofs.NumberViews.{numbers_anywhere}
use Rattle.bcs_encode_impl.proofs.WritingViews.{array_written, count_fields, count_formats, fields_written, tuple_written, variant_written}
use Rattle.bcs_encode_impl.proofs.MapEntries.{Ended, Enters, at_first, bytes_fill, bytes_stand, map_ends, one_more, pairs_written, spans_stand}
use Rattle.bcs_encode_impl.proofs.AppendsLaws.{after, along, as_well, at_one_registry, begins, goes_on, some_appends, then_appends}
use Rattle.bcs_encode_impl.proofs.Options.{then_none}
use Rattle.bcs_encode_impl.proofs.RowSteps.{content_found, item_validated, item_written, named_validated, pair_validated, pair_next}
use Rattle.bcs_encode_impl.proofs.ValidatingViews.{array_validated, array_unlike, at_pairs, at_signed, at_unsigned, by_list, by_struct, by_struct_payload, by_tuple, by_tuple_payload, by_tuple_struct, each_unlike, list_validated, long_map_validated, map_validated, variant_validated, no_variant_validated, row_validated}
use Rattle.bcs_encode_impl.proofs.writing.+writing.Goals as goal

pub write_all-returns-in-Some-clause-validated : goal.write_all-returns-in-Some-clause-validated
write_all-returns-in-Some-clause-validated t c =
    c.write_numbers.ensures.validated ∙ sym (row_validated c.args.registry.now c.in-Some.format (shape_of c.args.element.now) c.args.items.now c.args.depth c.args.nodes (search rules))

pub write_content-returns-in-TupleStruct-Items-clause-validated : goal.write_content-returns-in-TupleStruct-Items-clause-validated
write_content-returns-in-TupleStruct-Items-clause-validated t c =
    let m = c.in-TupleStruct-Items in
    c.write_each.ensures.validated ∙ by_tuple_struct (λ u f. validated c.args.registry.now u f c.args.depth c.args.nodes) _ _ m.items m.formats _ _ m.is-0 m.is-1 c.deref.ensures.value c.deref-in-TupleStruct-Items.ensures.value

pub write_content-returns-in-Struct-Items-clause-validated : goal.write_content-returns-in-Struct-Items-clause-validated
write_content-returns-in-Struct-Items-clause-validated t c =
    let m = c.in-Struct-Items in
    c.write_fields.ensures.validated ∙ by_struct (λ u f. validated c.args.registry.now u f c.args.depth c.args.nodes) _ _ m.items m.fields _ _ m.is-0 m.is-1 c.deref-in-Struct-Items.ensures.value c.deref-in-Struct-Items-2.ensures.value

pub write_content-returns-in-Some-clause-validated : goal.write_content-returns-in-Some-clause-validated
write_content-returns-in-Some-clause-validated t c =
    let m = c.in-Enum-Variant in
    c.write_payload.ensures.validated
    ∙ ap (λ (v : Value). validated c.args.registry.now (tree_of v) (of (payload_shape (payload_of c.in-Some.variant.now.value))) c.args.depth c.in_ok-nodes-in-Enum-Variant.nodes) c.deref-in-Some.ensures
    ∙ sym (variant_validated c.args.registry.now c.args.value.now c.args.container.now m.variants m.number m.inner c.in-Some.variant c.get.result c.args.depth c.args.nodes c.in_ok-nodes-in-Enum-Variant.nodes
    (omega arith) m.is-0 m.is-1 c.get.ensures.value c.in-Some.is (sym c.take-in-Enum-Variant.ensures ∙ c.in_ok-nodes-in-Enum-Variant.was))

pub write_content-returns-in-None-clause-validated : goal.write_content-returns-in-None-clause-validated
write_content-returns-in-None-clause-validated t c =
    let m = c.in-Enum-Variant in
    sym (no_variant_validated c.args.registry.now c.args.value.now c.args.container.now m.variants m.number m.inner c.get.result c.args.depth c.args.nodes m.is-0 m.is-1 c.get.ensures.value c.in-None.is)

pub write_each-returns-then-items-formats-clause-validated : goal.write_each-returns-then-items-formats-clause-validated
write_each-returns-then-items-formats-clause-validated t c =
    sym (then_none (each_validated c.args.registry.now (items_trees c.args.items.now) (formats_shapes c.args.formats.now) c.args.depth) (less 1 c.args.nodes)
    (λ n. each_unlike c.args.registry.now _ _ c.args.depth n (λ e. c.if-items-formats.true (sym (count_items c.args.items.now) ∙ e ∙ count_formats c.args.formats.now))))

pub write_fields-returns-then-items-fields-clause-validated : goal.write_fields-returns-then-items-fields-clause-validated
write_fields-returns-then-items-fields-clause-validated t c =
    sym (then_none (each_validated c.args.registry.now (items_trees c.args.items.now) (field_shapes (map field_of c.args.fields.now)) c.args.depth) (less 1 c.args.nodes)
    (λ n. each_unlike c.args.registry.now _ _ c.args.depth n (λ e. c.if-items-fields.true (sym (count_items c.args.items.now) ∙ e ∙ count_fields c.args.fields.now))))

pub write_list-returns-clause-validated : goal.write_list-returns-clause-validated
write_list-returns-clause-validated t c =
    c.write_all.ensures.validated
    ∙ sym (list_validated c.args.registry.now c.args.items.now (shape_of c.args.element.now) c.args.depth c.args.nodes c.in_ok-take.field-0 (omega (arith, c.if-items-gt-LENGTH_LIMIT.false))
    (sym c.take.ensures ∙ c.in_ok-take.was))

pub write_payload-returns-in-Tuple-Items-clause-validated : goal.write_payload-returns-in-Tuple-Items-clause-validated
write_payload-returns-in-Tuple-Items-clause-validated t c =
    let m = c.in-Tuple-Items in
    c.write_each.ensures.validated ∙ by_tuple_payload (λ u f. validated c.args.registry.now u f c.args.depth c.args.nodes) _ _ m.items m.formats _ _ m.is-0 m.is-1 c.deref.ensures.value c.deref-in-Tuple-Items.ensures.value

pub write_payload-returns-in-Struct-Items-clause-validated : goal.write_payload-returns-in-Struct-Items-clause-validated
write_payload-returns-in-Struct-Items-clause-validated t c =
    let m = c.in-Struct-Items in
    c.write_fields.ensures.validated ∙ by_struct_payload (λ u f. validated c.args.registry.now u f c.args.depth c.args.nodes) _ _ m.items m.fields _ _ m.is-0 m.is-1 c.deref-in-Struct-Items.ensures.value c.deref-in-Struct-Items-2.ensures.value

pub write_value-returns-in-Items-Seq-clause-validated : goal.write_value-returns-in-Items-Seq-clause-validated
write_value-returns-in-Items-Seq-clause-validated t c =
    let m = c.in-Items-Seq in
    c.write_list.ensures.validated ∙ by_list (λ u f. validated c.args.registry.now u f c.args.depth c.args.nodes) _ _ m.items m.element _ _ m.is-0 m.is-1 c.deref-in-Items-Seq.ensures.value c.deref-in-Items-Seq-2.ensures

pub write_value-returns-in-Items-Tuple-clause-validated : goal.write_value-returns-in-Items-Tuple-clause-validated
write_value-returns-in-Items-Tuple-clause-validated t c =
    let m = c.in-Items-Tuple in
    c.write_each.ensures.validated ∙ by_tuple (λ u f. validated c.args.registry.now u f c.args.depth c.args.nodes) _ _ m.items m.formats _ _ m.is-0 m.is-1 c.deref-in-Items-Tuple.ensures.value c.deref-in-Items-Tuple-2.ensures.value

pub write_value-returns-in-Unsigned-default-clause-validated : goal.write_value-returns-in-Unsigned-default-clause-validated
write_value-returns-in-Unsigned-default-clause-validated t c =
    c.write_unsigned.ensures.validated c.args.registry.now c.args.depth
    ∙ at_unsigned (λ u. validated c.args.registry.now u (of (shape_of c.args.format.now)) c.args.depth c.args.nodes) c.args.value.now _ c.in-Unsigned-default.is-0

pub write_value-returns-in-Signed-default-clause-validated : goal.write_value-returns-in-Signed-default-clause-validated
write_value-returns-in-Signed-default-clause-validated t c =
    c.write_signed.ensures.validated c.args.registry.now c.args.depth
    ∙ at_signed (λ u. validated c.args.registry.now u (of (shape_of c.args.format.now)) c.args.depth c.args.nodes) c.args.value.now _ c.in-Signed-default.is-0

pub write_all-returns-in-Some-clause-appended : goal.write_all-returns-in-Some-clause-appended
write_all-returns-in-Some-clause-appended t c =
    along c.write_numbers.result c.args.out.now c.write_numbers.new.out _ _ (λ b. numbers_anywhere c.args.registry.now [] c.in-Some.format (shape_of c.args.element.now) (items_trees c.args.items.now) b (search rules)) (some_appends c.write_numbers.result c.args.out.now c.write_numbers.new.out (items_written [] (items_trees c.args.items.now) (whole_shape c.in-Some.format)) c.write_numbers.ensures.appended)

pub write_content-returns-in-TupleStruct-Items-clause-appended : goal.write_content-returns-in-TupleStruct-Items-clause-appended
write_content-returns-in-TupleStruct-Items-clause-appended t c =
    let m = c.in-TupleStruct-Items in
    along c.write_each.result c.args.out.now c.write_each.new.out _ _ (λ b. sym (by_tuple_struct (λ u f. written c.args.registry.now u f b) _ _ m.items m.formats _ _ m.is-0 m.is-1 c.deref.ensures.value c.deref-in-TupleStruct-Items.ensures.value)) c.write_each.ensures.appended

pub write_content-returns-in-Struct-Items-clause-appended : goal.write_content-returns-in-Struct-Items-clause-appended
write_content-returns-in-Struct-Items-clause-appended t c =
    let m = c.in-Struct-Items in
    along c.write_fields.result c.args.out.now c.write_fields.new.out _ _ (λ b. sym (by_struct (λ u f. written c.args.registry.now u f b) _ _ m.items m.fields _ _ m.is-0 m.is-1 c.deref-in-Struct-Items.ensures.value c.deref-in-Struct-Items-2.ensures.value)) c.write_fields.ensures.appended

pub write_content-returns-in-Some-clause-appended : goal.write_content-returns-in-Some-clause-appended
write_content-returns-in-Some-clause-appended t c =
    let m = c.in-Enum-Variant in
    after c.write_payload.result c.args.out.now c.push_number.new.self c.write_payload.new.out (λ b. Ok (b ++ uleb m.number))
    (written c.args.registry.now (tree_of c.deref-in-Some.result.now) (of (payload_shape (payload_of c.in-Some.variant.now.value)))) _
    (λ b. variant_written c.args.registry.now c.args.value.now c.args.container.now m.variants m.number m.inner c.in-Some.variant c.get.result b m.is-0 m.is-1 c.get.ensures.value c.in-Some.is
    ∙ ap (λ (v : Value). written c.args.registry.now (tree_of v) (of (payload_shape (payload_of c.in-Some.variant.now.value))) (b ++ uleb m.number)) (sym c.deref-in-Some.ensures))
    c.push_number.ensures.appended c.write_payload.ensures.appended

pub write_payload-returns-in-Tuple-Items-clause-appended : goal.write_payload-returns-in-Tuple-Items-clause-appended
write_payload-returns-in-Tuple-Items-clause-appended t c =
    let m = c.in-Tuple-Items in
    along c.write_each.result c.args.out.now c.write_each.new.out _ _ (λ b. sym (by_tuple_payload (λ u f. written c.args.registry.now u f b) _ _ m.items m.formats _ _ m.is-0 m.is-1 c.deref.ensures.value c.deref-in-Tuple-Items.ensures.value)) c.write_each.ensures.appended

pub write_payload-returns-in-Struct-Items-clause-appended : goal.write_payload-returns-in-Struct-Items-clause-appended
write_payload-returns-in-Struct-Items-clause-appended t c =
    let m = c.in-Struct-Items in
    along c.write_fields.result c.args.out.now c.write_fields.new.out _ _ (λ b. sym (by_struct_payload (λ u f. written c.args.registry.now u f b) _ _ m.items m.fields _ _ m.is-0 m.is-1 c.deref-in-Struct-Items.ensures.value c.deref-in-Struct-Items-2.ensures.value)) c.write_fields.ensures.appended

pub write_value-returns-in-Items-Tuple-clause-appended : goal.write_value-returns-in-Items-Tuple-clause-appended
write_value-returns-in-Items-Tuple-clause-appended t c =
    let m = c.in-Items-Tuple in
    along c.write_each.result c.args.out.now c.write_each.new.out _ _ (λ b. sym (by_tuple (λ u f. written c.args.registry.now u f b) _ _ m.items m.formats _ _ m.is-0 m.is-1 c.deref-in-Items-Tuple.ensures.value c.deref-in-Items-Tuple-2.ensures.value)) c.write_each.ensures.appended

pub write_value-returns-in-Unsigned-default-clause-appended : goal.write_value-returns-in-Unsigned-default-clause-appended
write_value-returns-in-Unsigned-default-clause-appended t c =
    along c.write_unsigned.result c.args.out.now c.write_unsigned.new.out _ _ (λ b. sym (at_unsigned (λ u. written c.args.registry.now u (of (shape_of c.args.format.now)) b) c.args.value.now _ c.in-Unsigned-default.is-0))
    (at_one_registry c.write_unsigned.result c.args.registry.now _ c.write_unsigned.ensures.appended)

pub write_value-returns-in-Signed-default-clause-appended : goal.write_value-returns-in-Signed-default-clause-appended
write_value-returns-in-Signed-default-clause-appended t c =
    along c.write_signed.result c.args.out.now c.write_signed.new.out _ _ (λ b. sym (at_signed (λ u. written c.args.registry.now u (of (shape_of c.args.format.now)) b) c.args.value.now _ c.in-Signed-default.is-0))
    (at_one_registry c.write_signed.result c.args.registry.now _ c.write_signed.ensures.appended)

pub write_each-loop-i-init : goal.write_each-loop-i-init
write_each-loop-i-init t c = record {
  validated = ap (option_and_then (each_validated c.args.registry.now (items_trees c.args.items.now) (formats_shapes c.args.formats.now) c.args.depth)) (sym c.take.ensures ∙ c.in_ok-left.was);
  appended = begins c.args.out.now _ _ (λ b. tuple_written c.args.registry.now c.args.items.now c.args.formats.now b (omega (arith, c.if-items-formats.false)));
  given = gives_begins c.args.out.now _ _ refl;
}

pub write_fields-loop-i-init : goal.write_fields-loop-i-init
write_fields-loop-i-init t c = record {
  validated = ap (option_and_then (each_validated c.args.registry.now (items_trees c.args.items.now) (field_shapes (map field_of c.args.fields.now)) c.args.depth)) (sym c.take.ensures ∙ c.in_ok-left.was);
  appended = begins c.args.out.now _ _ (λ b. fields_written c.args.registry.now c.args.items.now c.args.fields.now b (omega (arith, c.if-items-fields.false)));
  given = gives_begins c.args.out.now _ _ refl;
}

pub write_map-returns-then-pairs-gt-LENGTH_LIMIT-clause-validated : goal.write_map-returns-then-pairs-gt-LENGTH_LIMIT-clause-validated
write_map-returns-then-pairs-gt-LENGTH_LIMIT-clause-validated t c =
    sym (long_map_validated c.args.registry.now c.args.pairs.now c.args.format.now c.in-Map.key c.in-Map.value c.args.depth c.args.nodes c.in-Map.is (omega (arith, c.if-pairs-gt-LENGTH_LIMIT.true)))

pub write_map-loop-k-init : goal.write_map-loop-k-init
write_map-loop-k-init t c = record {
  validated = map_validated c.args.registry.now c.args.pairs.now c.args.format.now c.in-Map.key c.in-Map.value c.args.depth c.args.nodes c.in_ok-left.left c.in-Map.is (omega (arith, c.if-pairs-gt-LENGTH_LIMIT.false))
      (sym c.take.ensures ∙ c.in_ok-left.was);
  entered = at_first c.args.registry.now (shape_of c.in-Map.key.value) (shape_of c.in-Map.value.value) (entries_pairs c.args.pairs.now) c.push_length.new.self;
  given = gives_begins c.push_length.new.self _ _ refl;
}

pub write_value-returns-then-len-size-clause-validated : goal.write_value-returns-then-len-size-clause-validated
write_value-returns-then-len-size-clause-validated t c =
    let m = c.in-Items-TupleArray in
    sym (array_unlike c.args.registry.now c.args.value.now c.args.format.now m.items m.element m.size c.len.result c.args.depth c.args.nodes m.is-0 m.is-1 (search rules) c.if-len-size.true)

pub write_value-returns-in_ok-take-in-Items-TupleArray-clause-validated : goal.write_value-returns-in_ok-take-in-Items-TupleArray-clause-validated
write_value-returns-in_ok-take-in-Items-TupleArray-clause-validated t c =
    let m = c.in-Items-TupleArray in
    let left = c.in_ok-take-in-Items-TupleArray.field-0 in
    c.write_all.ensures.validated
    ∙ ap₂ (λ (us : List Value) (g : Format). all_validated c.args.registry.now (items_trees us) (shape_of g) c.args.depth left) c.deref-in-Items-TupleArray.ensures.value c.deref-in-Items-TupleArray-2.ensures
    ∙ sym (array_validated c.args.registry.now c.args.value.now c.args.format.now m.items m.element m.size c.len.result c.args.depth c.args.nodes left m.is-0 m.is-1 (search rules) (search rules)
    (sym c.take-in-Items-TupleArray.ensures ∙ c.in_ok-take-in-Items-TupleArray.was))

pub write_value-returns-in_ok-take-in-Items-TupleArray-clause-appended : goal.write_value-returns-in_ok-take-in-Items-TupleArray-clause-appended
write_value-returns-in_ok-take-in-Items-TupleArray-clause-appended t c =
    let m = c.in-Items-TupleArray in
    along c.write_all.result c.args.out.now c.write_all.new.out _ _ (λ b. array_written c.args.registry.now c.args.value.now c.args.format.now m.items m.element m.size c.len.result b m.is-0 m.is-1 (search rules) (search rules)
    ∙ ap₂ (λ (us : List Value) (g : Format). items_written c.args.registry.now (items_trees us) (shape_of g) b) (sym c.deref-in-Items-TupleArray.ensures.value) (sym c.deref-in-Items-TupleArray-2.ensures))
    c.write_all.ensures.appended

pub write_value-returns-in-Pairs-default-clause-validated : goal.write_value-returns-in-Pairs-default-clause-validated
write_value-returns-in-Pairs-default-clause-validated t c =
    c.write_map.ensures.validated ∙ at_pairs (λ u. validated c.args.registry.now u (of (shape_of c.args.format.now)) c.args.depth c.args.nodes) c.args.value.now c.in-Pairs-default.pairs c.deref-in-Pairs-default.result.now c.in-Pairs-default.is-0 c.deref-in-Pairs-default.ensures.value

pub write_value-returns-in-Pairs-default-clause-appended : goal.write_value-returns-in-Pairs-default-clause-appended
write_value-returns-in-Pairs-default-clause-appended t c =
    along c.write_map.result c.args.out.now c.write_map.new.out _ _ (λ b. sym (at_pairs (λ u. written c.args.registry.now u (of (shape_of c.args.format.now)) b) c.args.value.now c.in-Pairs-default.pairs c.deref-in-Pairs-default.result.now c.in-Pairs-default.is-0 c.deref-in-Pairs-default.ensures.value)) c.write_map.ensures.appended

pub write_map-end_map-requires : goal.write_map-end_map-requires
write_map-end_map-requires t c =
    let r = c.args.registry.now in
    let k = shape_of c.in-Map.key.value in
    let v = shape_of c.in-Map.value.value in
    let all = entries_pairs c.args.pairs.now in
    let first = c.push_length.new.self in
    let now = c.loop-k.out in
    let n_is : c.len-first.result ≡ length first.spans.items = search rules in
    let start_is : c.len-start.result ≡ length first.bytes.items = search rules in
    let done : Enters r k v all no_pairs first now c.loop-k.before =
    subst (λ (qs : List (Value × Value)). Enters r k v all (entries_pairs qs) first now c.loop-k.before) (drop_of_length-le c.args.pairs.now c.loop-k-test.false) c.loop-k.invariant.entered in
    record {
      first = spans_stand r k v all first now c.loop-k.before c.len-first.result c.len-start.result n_is start_is done;
      laid = bytes_stand r k v all first now c.loop-k.before c.len-first.result c.len-start.result n_is start_is done;
      filled = bytes_fill r k v all first now c.loop-k.before c.len-first.result c.len-start.result n_is start_is done;
    }

pub write_map-returns-clause-appended : goal.write_map-returns-clause-appended
write_map-returns-clause-appended t c =
    let r = c.args.registry.now in
    let k = shape_of c.in-Map.key.value in
    let v = shape_of c.in-Map.value.value in
    let all = entries_pairs c.args.pairs.now in
    let first = c.push_length.new.self in
    let now = c.loop-k.out in
    let n_is : c.len-first.result ≡ length first.spans.items = search rules in
    let start_is : c.len-start.result ≡ length first.bytes.items = search rules in
    let done : Enters r k v all no_pairs first now c.loop-k.before =
    subst (λ (qs : List (Value × Value)). Enters r k v all (entries_pairs qs) first now c.loop-k.before) (drop_of_length-le c.args.pairs.now c.loop-k-test.false) c.loop-k.invariant.entered in
    then_appends c.args.out.now first c.end_map.new.self (length_written (length c.args.pairs.now)) (pairs_written r all k v) (written r (pairs_tree all) (of (shape_of c.args.format.now)))
    (λ b. ap (λ (s : Shape). written r (pairs_tree all) (of s) b) (shape-Map c.args.format.now c.in-Map.key c.in-Map.value c.in-Map.is)
    ∙ ap (λ (n : ℕ). chain (length_written n b) (pairs_written r all k v)) (count_pairs c.args.pairs.now))
    c.push_length.ensures.appended
    (map_ends r k v all first now c.loop-k.before c.len-first.result c.len-start.result n_is start_is done c.end_map.new.self c.end_map.ensures.sorted c.end_map.ensures.others)

pub write_map-loop-k-preserved : goal.write_map-loop-k-preserved
write_map-loop-k-preserved t c =
    let r = c.args.registry.now in
    let k = shape_of c.in-Map.key.value in
    let v = shape_of c.in-Map.value.value in
    let d = c.args.depth in
    let pairs = c.args.pairs.now in
    let all = entries_pairs pairs in
    let first = c.push_length.new.self in
    let l = c.loop-k in
    let e = c.loop-k-item.result in
    let rest = entries_pairs (drop (l.k-index + 1) pairs) in
    let o = l.out in
    let p = c.write_value.new.out in
    let q = c.write_value-in-loop-k.new.out in
    let entry_is : span c.len-start-in-loop-k.result c.len-end.result c.len.result ≡ span (length o.bytes.items) (length p.bytes.items) (length q.bytes.items) =
    ap₂ (λ (i j : ℕ). span i j c.len.result) c.len-start-in-loop-k.ensures c.len-end.ensures ∙ ap (λ (i : ℕ). span (length o.bytes.items) (length p.bytes.items) i) c.len.ensures in
    let key_validated : validated r (tree_of e.0) (of k) d l.left ≡ Some c.in_ok-left-2.left =
    ap (λ (g : Format). validated r (tree_of e.0) (of (shape_of g)) d l.left) (sym c.deref.ensures) ∙ sym c.write_value.ensures.validated ∙ c.in_ok-left-2.was in
    let value_validated : validated r (tree_of e.1) (of v) d c.in_ok-left-2.left ≡ Some c.in_ok-left-3.left =
    ap (λ (g : Format). validated r (tree_of e.1) (of (shape_of g)) d c.in_ok-left-2.left) (sym c.deref-in-loop-k.ensures) ∙ sym c.write_value-in-loop-k.ensures.validated ∙ c.in_ok-left-3.was in
    let before : Enters r k v all (pair (tree_of e.0) (tree_of e.1) rest) first o l.before =
    subst (λ (qs : Pairs). Enters r k v all qs first o l.before) (pair_next r pairs l.k-index e c.loop-k-test.true c.loop-k-item.is) l.invariant.entered in
    let key_appended = as_well o p (written r (tree_of e.0) (of (shape_of c.deref.result.now))) (written r (tree_of e.0) (of k))
    (λ b. ap (λ (g : Format). written r (tree_of e.0) (of (shape_of g)) b) (sym c.deref.ensures)) c.in_ok-left-2.ensures.appended in
    let value_appended = as_well p q (written r (tree_of e.1) (of (shape_of c.deref-in-loop-k.result.now))) (written r (tree_of e.1) (of v))
    (λ b. ap (λ (g : Format). written r (tree_of e.1) (of (shape_of g)) b) (sym c.deref-in-loop-k.ensures)) c.in_ok-left-3.ensures.appended in
    let ended : Ended q c.end_entry.new.self l.before (span (length o.bytes.items) (length p.bytes.items) (length q.bytes.items)) =
    subst (λ (z : Span). Ended q c.end_entry.new.self l.before z) entry_is c.end_entry.ensures.ended in
    record {
      validated = l.invariant.validated ∙ pair_validated r pairs l.k-index e c.loop-k-test.true c.loop-k-item.is k v d l.left c.in_ok-left-2.left c.in_ok-left-3.left key_validated value_validated;
      entered = subst (λ (z : Span). Enters r k v all rest first c.end_entry.new.self (Some z)) (sym entry_is)
          (one_more r k v all (tree_of e.0) (tree_of e.1) rest first o p q c.end_entry.new.self l.before before key_appended value_appended ended);
      given =
          let key : List ℕ = plain r (tree_of e.0) (of k) in
          let value : List ℕ = plain r (tree_of e.1) (of v) in
          let x : Gives o p key = gives_as_well o p _ key (ap (λ (g : Format). plain r (tree_of e.0) (of (shape_of g))) (sym c.deref.ensures)) c.in_ok-left-2.ensures.given in
          let y : Gives p q value = gives_as_well p q _ value (ap (λ (g : Format). plain r (tree_of e.1) (of (shape_of g))) (sym c.deref-in-loop-k.ensures)) c.in_ok-left-3.ensures.given in
          let z : Gives q c.end_entry.new.self [] = entry_gives q c.end_entry.new.self (λ is. let d = ended is in (d.0, d.1)) in
          let yz : Gives p c.end_entry.new.self value = then_gives p q c.end_entry.new.self value [] value (sym (append-nil value)) y z in
          let xyz : Gives o c.end_entry.new.self (key ++ value) = then_gives o p c.end_entry.new.self key value (key ++ value) refl x yz in
          gives_on first o c.end_entry.new.self (plain_pairs r all k v) (plain_pairs r (entries_pairs (drop l.k-index pairs)) k v) (key ++ value) (plain_pairs r rest k v)
          (ap (λ (qs : Pairs). plain_pairs r qs k v) (pair_next r pairs l.k-index e c.loop-k-test.true c.loop-k-item.is) ∙ sym (append_assoc key value (plain_pairs r rest k v)))
          l.invariant.given xyz;
    }

pub write_all_named-loop-item-preserved : goal.write_all_named-loop-item-preserved
write_all_named-loop-item-preserved t c =
    let r = c.args.registry.now in
    let name = c.args.name.now in
    let s = name_shape name in
    let vs = c.args.items.now in
    let l = c.loop-item in
    let v = c.item-item.result in
    let m = c.in-Named-Some in
    let inner = c.deref.result.now in
    let seen : tree_of v ≡ named_tree (tree_of inner) = ap (λ (y : Value). tree_of y) m.is-0 ∙ search (rules, the_lemmas) in
    let opened : content_at name r ≡ content (container_of m.container.now) =
    content_found r name c.container-found.result m.container c.container-found.ensures.found m.is-1 in
    let one_validated : validated r (tree_of v) (of s) c.args.depth l.left ≡ Some c.in_ok-left-in-Named-Some.left =
    ap (λ (u : Tree). validated r u (of s) c.args.depth l.left) seen
    ∙ named_validated r (tree_of inner) name (content (container_of m.container.now)) c.args.depth c.in_ok-take-in-Named-Some.field-0 l.left c.in_ok-take-in-Named-Some-2.field-0 c.in_ok-left-in-Named-Some.left
    (sym c.take.ensures ∙ c.in_ok-take-in-Named-Some.was) (sym c.take-in-Named-Some.ensures ∙ c.in_ok-take-in-Named-Some-2.was) opened
    (sym c.write_content.ensures.validated ∙ c.in_ok-left-in-Named-Some.was) in
    record {
      validated = l.invariant.validated ∙ item_validated r vs l.item-index v c.loop-item-test.true c.item-item.is s c.args.depth l.left c.in_ok-left-in-Named-Some.left one_validated;
      appended = goes_on c.args.out.now l.out c.write_content.new.out (items_written r (items_trees vs) s) (items_written r (items_trees (drop l.item-index vs)) s)
          (written r (tree_of v) (of s)) (items_written r (items_trees (drop (l.item-index + 1) vs)) s)
          (λ b. item_written r vs l.item-index v c.loop-item-test.true c.item-item.is s b) l.invariant.appended
          (as_well l.out c.write_content.new.out (written r (tree_of inner) (content (container_of m.container.now))) (written r (tree_of v) (of s))
          (λ b. ap (λ (u : Tree). written r u (of s) b) seen ∙ ap (λ (f : Content). written r (tree_of inner) f b) opened) c.in_ok-left-in-Named-Some.ensures.appended);
      given = gives_on c.args.out.now l.out c.write_content.new.out (plain_items r (items_trees vs) s) (plain_items r (items_trees (drop l.item-index vs)) s) (plain r (tree_of v) (of s)) (plain_items r (items_trees (drop (l.item-index + 1) vs)) s)
          (item_plain r vs l.item-index v c.loop-item-test.true c.item-item.is s) l.invariant.given
          (gives_as_well l.out c.write_content.new.out (plain r (tree_of inner) (content (container_of m.container.now))) (plain r (tree_of v) (of s))
          (ap (λ (u : Tree). plain r u (of s)) seen ∙ ap (λ (f : Content). plain r (tree_of inner) f) opened) c.in_ok-left-in-Named-Some.ensures.given);
    }

pub write_content-returns-in-TupleStruct-Items-clause-given : goal.write_content-returns-in-TupleStruct-Items-clause-given
write_content-returns-in-TupleStruct-Items-clause-given t c =
    let m = c.in-TupleStruct-Items in
    some_gives_as_well c.write_each.result c.args.out.now c.write_each.new.out _ _ (sym (by_tuple_struct (λ u f. plain c.args.registry.now u f) _ _ m.items m.formats _ _ m.is-0 m.is-1 c.deref.ensures.value c.deref-in-TupleStruct-Items.ensures.value)) c.write_each.ensures.given

pub write_content-returns-in-Struct-Items-clause-given : goal.write_content-returns-in-Struct-Items-clause-given
write_content-returns-in-Struct-Items-clause-given t c =
    let m = c.in-Struct-Items in
    some_gives_as_well c.write_fields.result c.args.out.now c.write_fields.new.out _ _ (sym (by_struct (λ u f. plain c.args.registry.now u f) _ _ m.items m.fields _ _ m.is-0 m.is-1 c.deref-in-Struct-Items.ensures.value c.deref-in-Struct-Items-2.ensures.value)) c.write_fields.ensures.given

pub write_payload-returns-in-Tuple-Items-clause-given : goal.write_payload-returns-in-Tuple-Items-clause-given
write_payload-returns-in-Tuple-Items-clause-given t c =
    let m = c.in-Tuple-Items in
    some_gives_as_well c.write_each.result c.args.out.now c.write_each.new.out _ _ (sym (by_tuple_payload (λ u f. plain c.args.registry.now u f) _ _ m.items m.formats _ _ m.is-0 m.is-1 c.deref.ensures.value c.deref-in-Tuple-Items.ensures.value)) c.write_each.ensures.given

pub write_payload-returns-in-Struct-Items-clause-given : goal.write_payload-returns-in-Struct-Items-clause-given
write_payload-returns-in-Struct-Items-clause-given t c =
    let m = c.in-Struct-Items in
    some_gives_as_well c.write_fields.result c.args.out.now c.write_fields.new.out _ _ (sym (by_struct_payload (λ u f. plain c.args.registry.now u f) _ _ m.items m.fields _ _ m.is-0 m.is-1 c.deref-in-Struct-Items.ensures.value c.deref-in-Struct-Items-2.ensures.value)) c.write_fields.ensures.given

pub write_value-returns-in-Items-Tuple-clause-given : goal.write_value-returns-in-Items-Tuple-clause-given
write_value-returns-in-Items-Tuple-clause-given t c =
    let m = c.in-Items-Tuple in
    some_gives_as_well c.write_each.result c.args.out.now c.write_each.new.out _ _ (sym (by_tuple (λ u f. plain c.args.registry.now u f) _ _ m.items m.formats _ _ m.is-0 m.is-1 c.deref-in-Items-Tuple.ensures.value c.deref-in-Items-Tuple-2.ensures.value)) c.write_each.ensures.given

pub write_value-returns-in-Pairs-default-clause-given : goal.write_value-returns-in-Pairs-default-clause-given
write_value-returns-in-Pairs-default-clause-given t c =
    some_gives_as_well c.write_map.result c.args.out.now c.write_map.new.out _ _ (sym (at_pairs (λ u. plain c.args.registry.now u (of (shape_of c.args.format.now))) c.args.value.now c.in-Pairs-default.pairs c.deref-in-Pairs-default.result.now c.in-Pairs-default.is-0 c.deref-in-Pairs-default.ensures.value)) c.write_map.ensures.given

pub write_all-returns-in-Some-clause-given : goal.write_all-returns-in-Some-clause-given
write_all-returns-in-Some-clause-given t c =
    some_appended_gives c.write_numbers.result c.args.out.now c.write_numbers.new.out (items_written c.args.registry.now (items_trees c.args.items.now) (shape_of c.args.element.now)) _
    (λ b h. numbers_given c.args.registry.now c.in-Some.format (shape_of c.args.element.now) (items_trees c.args.items.now) c.args.out.now.bytes.items b (search rules) h) (write_all-returns-in-Some-clause-appended t c)

pub write_content-returns-in-Some-clause-given : goal.write_content-returns-in-Some-clause-given
write_content-returns-in-Some-clause-given t c =
    let m = c.in-Enum-Variant in
    some_then_gives c.write_payload.result c.args.out.now c.push_number.new.self c.write_payload.new.out (uleb m.number)
    (plain c.args.registry.now (tree_of c.deref-in-Some.result.now) (of (payload_shape (payload_of c.in-Some.variant.now.value)))) _
    (variant_plain c.args.registry.now c.args.value.now c.args.container.now m.variants m.number m.inner c.in-Some.variant c.get.result m.is-0 m.is-1 c.get.ensures.value c.in-Some.is
    ∙ ap (λ (v : Value). uleb m.number ++ plain c.args.registry.now (tree_of v) (of (payload_shape (payload_of c.in-Some.variant.now.value)))) (sym c.deref-in-Some.ensures))
    (appended_gives c.args.out.now c.push_number.new.self (λ b. Ok (b ++ uleb m.number)) (uleb m.number) (λ b h. same_ok (c.args.out.now.bytes.items ++ uleb m.number) b (Ok (c.args.out.now.bytes.items ++ uleb m.number)) refl h) c.push_number.ensures.appended)
    c.write_payload.ensures.given

pub write_value-returns-in-Unsigned-default-clause-given : goal.write_value-returns-in-Unsigned-default-clause-given
write_value-returns-in-Unsigned-default-clause-given t c =
    some_gives_as_well c.write_unsigned.result c.args.out.now c.write_unsigned.new.out _ _ (sym (at_unsigned (λ u. plain c.args.registry.now u (of (shape_of c.args.format.now))) c.args.value.now _ c.in-Unsigned-default.is-0))
    (some_appended_gives c.write_unsigned.result c.args.out.now c.write_unsigned.new.out _ _ (λ b h. unsigned_given c.args.registry.now _ (of (shape_of c.args.format.now)) c.args.out.now.bytes.items b h)
    (at_one_registry c.write_unsigned.result c.args.registry.now _ c.write_unsigned.ensures.appended))

pub write_value-returns-in-Signed-default-clause-given : goal.write_value-returns-in-Signed-default-clause-given
write_value-returns-in-Signed-default-clause-given t c =
    some_gives_as_well c.write_signed.result c.args.out.now c.write_signed.new.out _ _ (sym (at_signed (λ u. plain c.args.registry.now u (of (shape_of c.args.format.now))) c.args.value.now _ c.in-Signed-default.is-0))
    (some_appended_gives c.write_signed.result c.args.out.now c.write_signed.new.out _ _ (λ b h. signed_given c.args.registry.now _ (of (shape_of c.args.format.now)) c.args.out.now.bytes.items b h)
    (at_one_registry c.write_signed.result c.args.registry.now _ c.write_signed.ensures.appended))

pub write_value-returns-in_ok-take-in-Items-TupleArray-clause-given : goal.write_value-returns-in_ok-take-in-Items-TupleArray-clause-given
write_value-returns-in_ok-take-in-Items-TupleArray-clause-given t c =
    let m = c.in-Items-TupleArray in
    some_gives_as_well c.write_all.result c.args.out.now c.write_all.new.out _ _ (at_array (λ u f. plain c.args.registry.now u f) c.args.value.now c.args.format.now m.items m.element m.size m.is-0 m.is-1
    ∙ ap₂ (λ (us : List Value) (g : Format). plain_items c.args.registry.now (items_trees us) (shape_of g)) (sym c.deref-in-Items-TupleArray.ensures.value) (sym c.deref-in-Items-TupleArray-2.ensures))
    c.write_all.ensures.given

pub write_list-returns-clause-given : goal.write_list-returns-clause-given
write_list-returns-clause-given t c =
    some_then_gives c.write_all.result c.args.out.now c.push_length.new.self c.write_all.new.out (uleb (length c.args.items.now)) (plain_items c.args.registry.now (items_trees c.args.items.now) (shape_of c.args.element.now)) _
    (ap (λ (n : ℕ). uleb n ++ plain_items c.args.registry.now (items_trees c.args.items.now) (shape_of c.args.element.now)) (count_items c.args.items.now))
    (appended_gives c.args.out.now c.push_length.new.self (length_written (length c.args.items.now)) (uleb (length c.args.items.now)) (λ b h. length_given (length c.args.items.now) c.args.out.now.bytes.items b h) (search rules))
    c.write_all.ensures.given

pub write_map-returns-clause-given : goal.write_map-returns-clause-given
write_map-returns-clause-given t c =
    let r = c.args.registry.now in
    let k = shape_of c.in-Map.key.value in
    let v = shape_of c.in-Map.value.value in
    let pairs = c.args.pairs.now in
    let all = entries_pairs pairs in
    let first = c.push_length.new.self in
    let now = c.loop-k.out in
    let done : GivesOn first now (plain_pairs r all k v) [] =
    subst (λ (qs : List (Value × Value)). GivesOn first now (plain_pairs r all k v) (plain_pairs r (entries_pairs qs) k v)) (drop_of_length-le pairs c.loop-k-test.false) c.loop-k.invariant.given in
    then_gives c.args.out.now first c.end_map.new.self (uleb (length pairs)) (plain_pairs r all k v) (plain r (pairs_tree all) (of (shape_of c.args.format.now)))
    (ap (λ (s : Shape). plain r (pairs_tree all) (of s)) (shape-Map c.args.format.now c.in-Map.key c.in-Map.value c.in-Map.is)
    ∙ ap (λ (n : ℕ). uleb n ++ plain_pairs r all k v) (count_pairs pairs))
    (appended_gives c.args.out.now first (length_written (length pairs)) (uleb (length pairs)) (λ b h. length_given (length pairs) c.args.out.now.bytes.items b h) c.push_length.ensures.appended)
    (then_gives first now c.end_map.new.self (plain_pairs r all k v) [] (plain_pairs r all k v) (sym (append-nil (plain_pairs r all k v)))
    (gives_ends first now (plain_pairs r all k v) [] refl done)
    (map_gives now c.end_map.new.self (λ ext told whole. ((c.end_map.ensures.sorted ext told).1 whole).0) (λ other. let d = c.end_map.ensures.others other in (d.0, d.1))))

pub write_value-returns-in-Text-Str-clause-given : goal.write_value-returns-in-Text-Str-clause-given
write_value-returns-in-Text-Str-clause-given t c =
    let m = c.in-Text-Str in
    let s = c.as_str.result.now in
    let old = c.args.out.now in
    some_gives c.write_text.result old c.write_text.new.out _
    (gives_as_well old c.write_text.new.out (uleb (length s) ++ s) _ (sym (text_plain c.args.registry.now c.args.value.now c.args.format.now m.text s m.is-0 m.is-1 c.as_str.ensures.value))
    (appended_gives old c.write_text.new.out (bytes_written s) (uleb (length s) ++ s) (λ b h. bytes_given s old.bytes.items b h) c.write_text.ensures.appended))

pub write_value-returns-in-Bytes-Bytes-clause-given : goal.write_value-returns-in-Bytes-Bytes-clause-given
write_value-returns-in-Bytes-Bytes-clause-given t c =
    let m = c.in-Bytes-Bytes in
    let s = c.deref.result.now in
    let old = c.args.out.now in
    some_gives c.write_bytes.result old c.write_bytes.new.out _
    (gives_as_well old c.write_bytes.new.out (uleb (length s) ++ s) _ (sym (bytes_plain c.args.registry.now c.args.value.now c.args.format.now m.bytes s m.is-0 m.is-1 c.deref.ensures.value))
    (appended_gives old c.write_bytes.new.out (bytes_written s) (uleb (length s) ++ s) (λ b h. bytes_given s old.bytes.items b h) c.write_bytes.ensures.appended))

pub write_value-returns-in_ok-take-in-Present-Opt-clause-given : goal.write_value-returns-in_ok-take-in-Present-Opt-clause-given
write_value-returns-in_ok-take-in-Present-Opt-clause-given t c =
    let m = c.in-Present-Opt in
    let old = c.args.out.now in
    let inner = c.deref-in-Present-Opt.result.now in
    let content = c.deref-in-Present-Opt-2.result.now in
    some_then_gives c.write_value.result old c.push_byte-in-Present-Opt.new.self c.write_value.new.out (1 ∷ []) (plain c.args.registry.now (tree_of inner) (of (shape_of content))) _
    (present_plain c.args.registry.now c.args.value.now c.args.format.now m.inner m.content inner content m.is-0 m.is-1 c.deref-in-Present-Opt.ensures c.deref-in-Present-Opt-2.ensures)
    (appended_gives old c.push_byte-in-Present-Opt.new.self (λ b. Ok (b ++ (1 ∷ []))) (1 ∷ []) (λ b h. same_ok (old.bytes.items ++ (1 ∷ [])) b (Ok (old.bytes.items ++ (1 ∷ []))) refl h) c.push_byte-in-Present-Opt.ensures.appended)
    c.write_value.ensures.given

pub write_value-returns-in-Named-TypeName-clause-validated : goal.write_value-returns-in-Named-TypeName-clause-validated
write_value-returns-in-Named-TypeName-clause-validated t c =
    let m = c.in-Named-TypeName in
    c.write_named.ensures.validated
    ∙ at_name (λ u f. validated c.args.registry.now u f c.args.depth c.args.nodes) c.args.value.now c.args.format.now m.inner m.name c.deref-in-Named-TypeName.result.now c.as_str-in-Named-TypeName.result.now m.is-0 m.is-1 c.deref-in-Named-TypeName.ensures c.as_str-in-Named-TypeName.ensures.value
