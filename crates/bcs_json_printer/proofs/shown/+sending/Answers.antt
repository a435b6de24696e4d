use Rattle.bcs_json_printer.proofs.Prelude.{◌≡◌, ◌∙◌, ◌+◌, ◌-◌, ◌<◌, ◌≤◌, ◌∷◌, [], ℕ, List, Bor, Some, false, drop, get_or, length, refl, sym, ap, subst, arith, rules, common_steps, drop_all, on_ok_weaker, Logs, map_begins, seq_begins, array, depth, items_depth, members_depth, null, object, SendsItems, SendsMembers, SendsValue, content, payload_shape, at_format, container_of, formats_shapes, payload_of, shape_of, Format, Named, all_fit, fits, nodes, entries_pairs, items_trees, tree_of, Value, json_content, of, shown, shown_all, shown_choice, shown_each, shown_pairs, are_distinct, container_distinct, option_map, ordered, the_lemmas, placed, bytes_again}
use Rattle.bcs_json_printer.proofs.ShownViews.{at_enum, at_map, at_option, choice_named, choice-found, choice-missing, named_fits, payload_fits}
use Rattle.bcs_json_printer.proofs.PrintedRows.{all_here, each_here, each_long, fields_long, left_at, pairs_here, shape_of_byte}
use Rattle.bcs_json_printer.proofs.Places.{shown_at, shown_at-is, shown_fields-places}
use Rattle.bcs_json_printer.proofs.FieldOrder.{in_order, name_at-is, names_again, order_within, ordered_len, place_left}
use Rattle.bcs_json_printer.proofs.SentRows.{all_len, array_within, both_below, each_len, entry_below, entry_nodes, field_fits, next_within, object_within, one_within, pairs_len, part_nodes, placed_len}
use Rattle.bcs_json_printer.proofs.shown.+sending.Goals as goal
use Rattle.bcs_json_printer.proofs.shown.+sending.Goals.{send_list-in-U8, send_list-in_default}

-- ---- elements of one format

pub send_all-send_value-requires : goal.send_all-send_value-requires
send_all-send_value-requires g t c κs within =
    let l = c.loop-item in
    let xs = c.args.items.now in
    let x = c.item-item.result in (
      omega (arith, part_nodes xs l.item-index x (omega arith) c.item-item.is),
      (within.0, (within.1, (all_here c.args.context.now.registry.now xs l.item-index x (shape_of c.args.element.now) (omega arith) c.item-item.is l.invariant.fits).0)),
    )

pub send_all-loop-item-preserved : goal.send_all-loop-item-preserved
send_all-loop-item-preserved g t c =
    let l = c.loop-item in
    let r = c.args.context.now.registry.now in
    let s = shape_of c.args.element.now in
    let xs = c.args.items.now in
    let x = c.item-item.result in record {
      whole = λ end e. l.invariant.whole end
          (subst (λ (ys : List Value). SendsItems (shown_all r (items_trees ys) s) (g.S.Serializer.written l.out) end) (sym (left_at xs l.item-index x (omega arith) c.item-item.is))
          (g.S.Serializer.written c.send_value.new.out, c.in_ok-send_value.ensures.sends, e));
      fits = (all_here r xs l.item-index x s (omega arith) c.item-item.is l.invariant.fits).1;
      nests = λ rest. l.invariant.nests
          (subst (λ (ys : List Value). items_depth (shown_all r (items_trees ys) s) < c.args.left) (sym (left_at xs l.item-index x (omega arith) c.item-item.is))
          (both_below _ _ _ c.in_ok-send_value.ensures.nests c.in_ok-open_seq.ensures.left rest));
    }

pub send_all-returns-clause-sends : goal.send_all-returns-clause-sends
send_all-returns-clause-sends g t c =
    let l = c.loop-item in
    let r = c.args.context.now.registry.now in
    let s = shape_of c.args.element.now in
    let xs = c.args.items.now in
    let first = g.S.Serializer.written c.open_seq.new.out in
    let end = g.S.Serializer.written c.close_seq.new.out in
    let begun = subst (λ n. Logs (g.S.Serializer.written c.args.out.now) first (seq_begins (Some n))) (sym (all_len r xs s)) c.in_ok-open_seq.ensures.begins in
    let none : drop l.item-index xs ≡ [] = drop_all l.item-index xs (omega arith) in
    on_ok_weaker c.close_seq.result (λ e. (
      first,
      begun,
      l.invariant.whole end (subst (λ (ys : List Value). SendsItems (shown_all r (items_trees ys) s) (g.S.Serializer.written l.out) end) (sym none) e),
    )) c.close_seq.ensures

pub send_all-returns-clause-nests : goal.send_all-returns-clause-nests
send_all-returns-clause-nests g t c =
    let l = c.loop-item in
    let xs = c.args.items.now in
    let none : drop l.item-index xs ≡ [] = drop_all l.item-index xs (omega arith) in
    let whole = l.invariant.nests
    (subst (λ (ys : List Value). items_depth (shown_all c.args.context.now.registry.now (items_trees ys) (shape_of c.args.element.now)) < c.args.left) (sym none) c.in_ok-open_seq.ensures.left) in
    on_ok_weaker c.close_seq.result (λ e. array_within _ _ whole) c.close_seq.ensures

pub send_list-send_byte_list-requires : goal.send_list-send_byte_list-requires
send_list-send_byte_list-requires g t c = record {
  bytes = elim c.match-matches.branch [
    | send_list-in-U8 w ↦
        (bytes_again c.args.context.now.registry.now (items_trees c.args.items.now)
        (ap (all_fit false c.args.context.now.registry.now (items_trees c.args.items.now)) (sym (shape_of_byte c.args.element.now w.in-U8.is)) ∙ c.requires.fits)).1
    | send_list-in_default w ↦ cc
  ];
}

-- ---- elements of a tuple

pub send_each-send_value-requires : goal.send_each-send_value-requires
send_each-send_value-requires g t c κs within =
    let l = c.loop-i in
    let xs = c.args.items.now in
    let fs = c.args.formats.now in
    let x = c.index-items-i.result in
    let f = c.index-formats-i.result in
    (omega (arith, part_nodes xs l.i x (omega arith) c.index-items-i.is), (within.0, (within.1, (each_here c.args.context.now.registry.now xs l.i x fs f (omega arith) c.index-items-i.is c.index-formats-i.is l.invariant.fits).0)))

pub send_each-loop-i-preserved : goal.send_each-loop-i-preserved
send_each-loop-i-preserved g t c =
    let l = c.loop-i in
    let r = c.args.context.now.registry.now in
    let xs = c.args.items.now in
    let fs = c.args.formats.now in
    let x = c.index-items-i.result in
    let f = c.index-formats-i.result in
    let out = g.S.Serializer.written l.out in
    let here = left_at xs l.i x (omega arith) c.index-items-i.is in
    let there = left_at fs l.i f (each_long r xs l.i x fs (omega arith) c.index-items-i.is l.invariant.fits) c.index-formats-i.is in record {
      whole = λ end e. l.invariant.whole end
          (subst (λ (ys : List Value). SendsItems (shown_each r (items_trees ys) (formats_shapes (drop l.i fs))) out end) (sym here)
          (subst (λ (gs : List Format). SendsItems (shown_each r (items_trees (x ∷ drop (l.i + 1) xs)) (formats_shapes gs)) out end) (sym there)
          (g.S.Serializer.written c.send_value.new.out, c.in_ok-send_value.ensures.sends, e)));
      fits = (each_here r xs l.i x fs f (omega arith) c.index-items-i.is c.index-formats-i.is l.invariant.fits).1;
      nests = λ rest. l.invariant.nests
          (subst (λ (ys : List Value). items_depth (shown_each r (items_trees ys) (formats_shapes (drop l.i fs))) < c.args.left) (sym here)
          (subst (λ (gs : List Format). items_depth (shown_each r (items_trees (x ∷ drop (l.i + 1) xs)) (formats_shapes gs)) < c.args.left) (sym there)
          (both_below _ _ _ c.in_ok-send_value.ensures.nests c.in_ok-open_seq.ensures.left rest)));
    }

pub send_each-returns-clause-sends : goal.send_each-returns-clause-sends
send_each-returns-clause-sends g t c =
    let l = c.loop-i in
    let r = c.args.context.now.registry.now in
    let xs = c.args.items.now in
    let fs = c.args.formats.now in
    let first = g.S.Serializer.written c.open_seq.new.out in
    let end = g.S.Serializer.written c.close_seq.new.out in
    let begun = subst (λ n. Logs (g.S.Serializer.written c.args.out.now) first (seq_begins (Some n))) (sym (each_len r xs fs c.requires.fits)) c.in_ok-open_seq.ensures.begins in
    let none : drop l.i xs ≡ [] = drop_all l.i xs (omega arith) in
    on_ok_weaker c.close_seq.result (λ e. (
      first,
      begun,
      l.invariant.whole end (subst (λ (ys : List Value). SendsItems (shown_each r (items_trees ys) (formats_shapes (drop l.i fs))) (g.S.Serializer.written l.out) end) (sym none) e),
    )) c.close_seq.ensures

pub send_each-returns-clause-nests : goal.send_each-returns-clause-nests
send_each-returns-clause-nests g t c =
    let l = c.loop-i in
    let xs = c.args.items.now in
    let none : drop l.i xs ≡ [] = drop_all l.i xs (omega arith) in
    let whole = l.invariant.nests
    (subst (λ (ys : List Value). items_depth (shown_each c.args.context.now.registry.now (items_trees ys) (formats_shapes (drop l.i c.args.formats.now))) < c.args.left) (sym none) c.in_ok-open_seq.ensures.left) in
    on_ok_weaker c.close_seq.result (λ e. array_within _ _ whole) c.close_seq.ensures

-- ---- entries of a map

pub send_pairs-send_value-requires : goal.send_pairs-send_value-requires
send_pairs-send_value-requires g t c κs within =
    let l = c.loop-k in
    let p = c.loop-k-item.result in
    let few = entry_nodes c.args.pairs.now l.k-index p (omega arith) c.loop-k-item.is in
    (omega (arith, few.0), (within.0, (within.1, (pairs_here c.args.context.now.registry.now c.args.pairs.now l.k-index p (shape_of c.args.key.now) (shape_of c.args.value.now) (omega arith) c.loop-k-item.is l.invariant.fits).0)))

pub send_pairs-send_value-requires-in-loop-k : goal.send_pairs-send_value-requires-in-loop-k
send_pairs-send_value-requires-in-loop-k g t c κs within =
    let l = c.loop-k in
    let p = c.loop-k-item.result in
    let few = entry_nodes c.args.pairs.now l.k-index p (omega arith) c.loop-k-item.is in
    (omega (arith, few.1), (within.0, (within.1, (pairs_here c.args.context.now.registry.now c.args.pairs.now l.k-index p (shape_of c.args.key.now) (shape_of c.args.value.now) (omega arith) c.loop-k-item.is l.invariant.fits).1)))

pub send_pairs-loop-k-preserved : goal.send_pairs-loop-k-preserved
send_pairs-loop-k-preserved g t c =
    let l = c.loop-k in
    let r = c.args.context.now.registry.now in
    let k = shape_of c.args.key.now in
    let v = shape_of c.args.value.now in
    let ps = c.args.pairs.now in
    let p = c.loop-k-item.result in
    let here = left_at ps l.k-index p (omega arith) c.loop-k-item.is in
    let opened = g.S.Serializer.written c.open_seq-in-loop-k.new.out in
    let named = g.S.Serializer.written c.send_value.new.out in
    let valued = g.S.Serializer.written c.send_value-in-loop-k.new.out in
    let closed = g.S.Serializer.written c.close_seq.new.out in record {
      whole = λ end e. l.invariant.whole end
          (subst (λ (ys : List (Value × Value)). SendsItems (shown_pairs r (entries_pairs ys) k v) (g.S.Serializer.written l.out) end) (sym here)
          (closed, (opened, c.in_ok-open_seq-2.ensures.begins, (named, c.in_ok-send_value.ensures.sends, (valued, c.in_ok-send_value-2.ensures.sends, c.in_ok-close_seq.ensures))), e));
      fits = (pairs_here r ps l.k-index p k v (omega arith) c.loop-k-item.is l.invariant.fits).2;
      nests = λ rest. l.invariant.nests
          (subst (λ (ys : List (Value × Value)). items_depth (shown_pairs r (entries_pairs ys) k v) < c.args.left) (sym here)
          (entry_below _ _ _ _ c.in_ok-send_value.ensures.nests c.in_ok-send_value-2.ensures.nests c.in_ok-open_seq-2.ensures.left rest));
    }

pub send_pairs-returns-clause-sends : goal.send_pairs-returns-clause-sends
send_pairs-returns-clause-sends g t c =
    let l = c.loop-k in
    let r = c.args.context.now.registry.now in
    let k = shape_of c.args.key.now in
    let v = shape_of c.args.value.now in
    let ps = c.args.pairs.now in
    let first = g.S.Serializer.written c.open_seq.new.out in
    let end = g.S.Serializer.written c.close_seq-2.new.out in
    let begun = subst (λ n. Logs (g.S.Serializer.written c.args.out.now) first (seq_begins (Some n))) (sym (pairs_len r ps k v)) c.in_ok-open_seq.ensures.begins in
    let none : drop l.k-index ps ≡ [] = drop_all l.k-index ps (omega arith) in
    on_ok_weaker c.close_seq-2.result (λ e. (
      first,
      begun,
      l.invariant.whole end (subst (λ (ys : List (Value × Value)). SendsItems (shown_pairs r (entries_pairs ys) k v) (g.S.Serializer.written l.out) end) (sym none) e),
    )) c.close_seq-2.ensures

pub send_pairs-returns-clause-nests : goal.send_pairs-returns-clause-nests
send_pairs-returns-clause-nests g t c =
    let l = c.loop-k in
    let ps = c.args.pairs.now in
    let none : drop l.k-index ps ≡ [] = drop_all l.k-index ps (omega arith) in
    let whole = l.invariant.nests
    (subst (λ (ys : List (Value × Value)). items_depth (shown_pairs c.args.context.now.registry.now (entries_pairs ys) (shape_of c.args.key.now) (shape_of c.args.value.now)) < c.args.left) (sym none) c.in_ok-open_seq.ensures.left) in
    on_ok_weaker c.close_seq-2.result (λ e. array_within _ _ whole) c.close_seq-2.ensures

pub send_value-send_pairs-requires : goal.send_value-send_pairs-requires
send_value-send_pairs-requires g t c κs within =
    let m = c.in-Pairs-Map in
    let fit = at_map (λ t s. fits false c.args.context.now.registry.now t (at_format s)) c.args.value.now c.args.format.now m.pairs m.key m.content m.is-0 m.is-1 in
    let all = at_map (λ t s. nodes t) c.args.value.now c.args.format.now m.pairs m.key m.content m.is-0 m.is-1 in
    (grind (arith, common_steps), (within.0, (within.1, grind (arith, common_steps))))

pub send_value-returns-in-Pairs-Map-clause-sends : goal.send_value-returns-in-Pairs-Map-clause-sends
send_value-returns-in-Pairs-Map-clause-sends g t c =
    let m = c.in-Pairs-Map in
    let at = at_map (λ t s. shown c.args.context.now.registry.now t (of s)) c.args.value.now c.args.format.now m.pairs m.key m.content m.is-0 m.is-1 in
    let same : array (shown_pairs c.args.context.now.registry.now (entries_pairs c.deref-in-Pairs-Map-3.result.now) (shape_of c.deref-in-Pairs-Map.result.now) (shape_of c.deref-in-Pairs-Map-2.result.now))
    ≡ shown c.args.context.now.registry.now (tree_of c.args.value.now) (of (shape_of c.args.format.now)) =
    rw (c.deref-in-Pairs-Map-3.ensures.value, c.deref-in-Pairs-Map.ensures, c.deref-in-Pairs-Map-2.ensures) (sym at) in
    on_ok_weaker c.send_pairs.result (subst (λ d. SendsValue d (g.S.Serializer.written c.args.out.now) (g.S.Serializer.written c.send_pairs.new.out)) same) c.send_pairs.ensures.sends

pub send_value-returns-in-Pairs-Map-clause-nests : goal.send_value-returns-in-Pairs-Map-clause-nests
send_value-returns-in-Pairs-Map-clause-nests g t c =
    let m = c.in-Pairs-Map in
    let at = at_map (λ t s. shown c.args.context.now.registry.now t (of s)) c.args.value.now c.args.format.now m.pairs m.key m.content m.is-0 m.is-1 in
    let same : array (shown_pairs c.args.context.now.registry.now (entries_pairs c.deref-in-Pairs-Map-3.result.now) (shape_of c.deref-in-Pairs-Map.result.now) (shape_of c.deref-in-Pairs-Map-2.result.now))
    ≡ shown c.args.context.now.registry.now (tree_of c.args.value.now) (of (shape_of c.args.format.now)) =
    rw (c.deref-in-Pairs-Map-3.ensures.value, c.deref-in-Pairs-Map.ensures, c.deref-in-Pairs-Map-2.ensures) (sym at) in
    on_ok_weaker c.send_pairs.result (subst (λ d. depth d ≤ c.args.left) same) c.send_pairs.ensures.nests

-- ---- options

pub send_value-returns-in_ok-send_value-in-Present-Opt-clause-sends : goal.send_value-returns-in_ok-send_value-in-Present-Opt-clause-sends
send_value-returns-in_ok-send_value-in-Present-Opt-clause-sends g t c =
    let m = c.in-Present-Opt in
    let r = c.args.context.now.registry.now in
    let d = shown r (tree_of m.inner.value) (of (shape_of m.content.value)) in
    let at = at_option (λ t s. shown r t (of s)) c.args.value.now c.args.format.now m.inner m.content m.is-0 m.is-1 in
    let inner : shown r (tree_of c.deref-in-Present-Opt.result.now) (of (shape_of c.deref.result.now)) ≡ d = search rules in
    let opened = g.S.Serializer.written c.open_map.new.out in
    let named = g.S.Serializer.written c.send_name.new.out in
    let valued = g.S.Serializer.written c.send_value.new.out in
    let end = g.S.Serializer.written c.close_map.new.out in
    on_ok_weaker c.close_map.result (λ e. subst (λ x. SendsValue x (g.S.Serializer.written c.args.out.now) end) (sym at) (
      opened,
      c.in_ok-open_map-in-Present-Opt.ensures.begins,
      (named, valued, c.in_ok-send_name-in-Present-Opt.ensures, subst (λ x. SendsValue x named valued) inner c.in_ok-send_value-in-Present-Opt.ensures.sends, e),
    )) c.close_map.ensures

pub send_value-returns-in_ok-send_value-in-Present-Opt-clause-nests : goal.send_value-returns-in_ok-send_value-in-Present-Opt-clause-nests
send_value-returns-in_ok-send_value-in-Present-Opt-clause-nests g t c =
    let m = c.in-Present-Opt in
    let r = c.args.context.now.registry.now in
    let d = shown r (tree_of m.inner.value) (of (shape_of m.content.value)) in
    let at = at_option (λ t s. shown r t (of s)) c.args.value.now c.args.format.now m.inner m.content m.is-0 m.is-1 in
    let inner : shown r (tree_of c.deref-in-Present-Opt.result.now) (of (shape_of c.deref.result.now)) ≡ d = search rules in
    let own : depth d ≤ c.args.left - 1 = subst (λ x. depth x ≤ c.args.left - 1) inner c.in_ok-send_value-in-Present-Opt.ensures.nests in
    on_ok_weaker c.close_map.result (λ e. subst (λ x. depth x ≤ c.args.left) (sym at) (one_within d c.args.left own c.in_ok-open_map-in-Present-Opt.ensures.left)) c.close_map.ensures

-- ---- fields of a struct

pub send_fields-loop-name-init : goal.send_fields-loop-name-init
send_fields-loop-name-init g t c = record {
  whole = λ end e. e;
  nests = λ h. h;
  within = rw (c.into_iter-name-iterator.ensures.into_iter_gives, c.iter-name-items.ensures.rest) c.in_ok-places.ensures.within;
}

pub send_fields-bounds-items-i : goal.send_fields-bounds-items-i
send_fields-bounds-items-i g t c =
    let l = c.loop-name in
    let next = next_within l.name-iterator (c.in-Some.name.now, c.in-Some.place.now) c.next.new.self (length c.args.fields.now) c.in-Some.ensures.steps l.invariant.within in
    let long = fields_long c.args.context.now.registry.now c.args.items.now c.args.fields.now c.requires.fits in
    omega (arith, long, next.0)

pub send_fields-send_value-requires : goal.send_fields-send_value-requires
send_fields-send_value-requires g t c κs within =
    let l = c.loop-name in
    let next = next_within l.name-iterator (c.in-Some.name.now, c.in-Some.place.now) c.next.new.self (length c.args.fields.now) c.in-Some.ensures.steps l.invariant.within in
    let long = fields_long c.args.context.now.registry.now c.args.items.now c.args.fields.now c.requires.fits in (
      omega (arith, part_nodes c.args.items.now c.in-Some.place.now c.index-items-i.result (omega (arith, long, next.0)) c.index-items-i.is),
      (
        within.0,
        (
          within.1,
          ap (λ (k : Named Format). fits false c.args.context.now.registry.now (tree_of c.index-items-i.result) (at_format (shape_of k.value))) (sym c.index-fields-i.is)
              ∙ field_fits c.args.context.now.registry.now c.args.items.now c.args.fields.now c.in-Some.place.now c.index-items-i.result c.index-fields-i.result (omega (arith, long, next.0)) next.0 c.index-items-i.is c.index-fields-i.is c.requires.fits,
        ),
      ),
    )

pub send_fields-loop-name-preserved : goal.send_fields-loop-name-preserved
send_fields-loop-name-preserved g t c =
    let l = c.loop-name in
    let r = c.args.context.now.registry.now in
    let e : Bor (List ℕ) × ℕ = (c.in-Some.name.now, c.in-Some.place.now) in
    let at = shown_at r c.args.items.now c.args.fields.now in
    let next = next_within l.name-iterator e c.next.new.self (length c.args.fields.now) c.in-Some.ensures.steps l.invariant.within in
    let long = fields_long r c.args.items.now c.args.fields.now c.requires.fits in
    let is = shown_at-is r c.args.items.now c.args.fields.now e.1 c.index-items-i.result c.index-fields-i.result (omega (arith, long, next.0)) next.0 c.index-items-i.is c.index-fields-i.is
    ∙ ap (λ (k : Named Format). shown r (tree_of c.index-items-i.result) (of (shape_of k.value))) c.index-fields-i.is in
    let out = g.S.Serializer.written l.out in
    let named = g.S.Serializer.written c.send_name.new.out in
    let valued = g.S.Serializer.written c.send_value.new.out in record {
      whole = λ end after. l.invariant.whole end
          (subst (λ (es : List (Bor (List ℕ) × ℕ)). SendsMembers (placed at es) out end) (sym c.in-Some.ensures.steps) (
            named,
            valued,
            c.in_ok-send_name.ensures,
            subst (λ d. SendsValue d named valued) (sym is) c.in_ok-send_value.ensures.sends,
            after,
          ));
      nests = λ rest. l.invariant.nests
          (subst (λ (es : List (Bor (List ℕ) × ℕ)). members_depth (placed at es) < c.args.left) (sym c.in-Some.ensures.steps)
          (both_below _ _ _ (subst (λ d. depth d ≤ c.args.left - 1) (sym is) c.in_ok-send_value.ensures.nests) c.in_ok-open_map.ensures.left rest));
      within = next.1;
    }

pub send_fields-returns-clause-sends : goal.send_fields-returns-clause-sends
send_fields-returns-clause-sends g t c =
    let l = c.loop-name in
    let r = c.args.context.now.registry.now in
    let at = shown_at r c.args.items.now c.args.fields.now in
    let long = fields_long r c.args.items.now c.args.fields.now c.requires.fits in
    let places = c.in_ok-places.places in
    let first = c.into_iter-name-iterator.ensures.into_iter_gives ∙ c.iter-name-items.ensures.rest in
    let all = c.in_ok-places.ensures.order at ∙ shown_fields-places r c.args.items.now c.args.fields.now long in
    let opened = g.S.Serializer.written c.open_map.new.out in
    let end = g.S.Serializer.written c.close_map.new.out in
    let begun = subst (λ n. Logs (g.S.Serializer.written c.args.out.now) opened (map_begins (Some n))) (c.len.ensures.len ∙ sym (placed_len at places.entries)) c.in_ok-open_map.ensures.begins in
    on_ok_weaker c.close_map.result (λ e. subst (λ ms. SendsValue (object ms) (g.S.Serializer.written c.args.out.now) end) all (
      opened,
      begun,
      subst (λ (es : List (Bor (List ℕ) × ℕ)). SendsMembers (placed at es) opened end) first
          (l.invariant.whole end (subst (λ (es : List (Bor (List ℕ) × ℕ)). SendsMembers (placed at es) (g.S.Serializer.written l.out) end) (sym c.in-None.ensures.steps.0) e)),
    )) c.close_map.ensures

pub send_fields-returns-clause-nests : goal.send_fields-returns-clause-nests
send_fields-returns-clause-nests g t c =
    let l = c.loop-name in
    let r = c.args.context.now.registry.now in
    let at = shown_at r c.args.items.now c.args.fields.now in
    let long = fields_long r c.args.items.now c.args.fields.now c.requires.fits in
    let first = c.into_iter-name-iterator.ensures.into_iter_gives ∙ c.iter-name-items.ensures.rest in
    let all = c.in_ok-places.ensures.order at ∙ shown_fields-places r c.args.items.now c.args.fields.now long in
    let whole = subst (λ (es : List (Bor (List ℕ) × ℕ)). members_depth (placed at es) < c.args.left) first
    (l.invariant.nests (subst (λ (es : List (Bor (List ℕ) × ℕ)). members_depth (placed at es) < c.args.left) (sym c.in-None.ensures.steps.0) c.in_ok-open_map.ensures.left)) in
    on_ok_weaker c.close_map.result (λ e. subst (λ ms. depth (object ms) ≤ c.args.left) all (object_within _ _ whole)) c.close_map.ensures

-- ---- fields whose order is known

pub send_in_order-bounds-fields-i : goal.send_in_order-bounds-fields-i
send_in_order-bounds-fields-i g t c =
    let k = c.loop-place.place-index in
    order_within c.args.fields.now c.args.order.now k (get_or c.args.order.now k 0) c.requires.order.1 (omega (arith, c.loop-place-test.true)) refl

pub send_in_order-bounds-items-i : goal.send_in_order-bounds-items-i
send_in_order-bounds-items-i g t c =
    let k = c.loop-place.place-index in
    let low = order_within c.args.fields.now c.args.order.now k (get_or c.args.order.now k 0) c.requires.order.1 (omega (arith, c.loop-place-test.true)) refl in
    let long = fields_long c.args.context.now.registry.now c.args.items.now c.args.fields.now c.requires.fits in
    omega (arith, long, low)

pub send_in_order-send_value-requires : goal.send_in_order-send_value-requires
send_in_order-send_value-requires g t c κs within =
    let k = c.loop-place.place-index in
    let i = get_or c.args.order.now k 0 in
    let low = order_within c.args.fields.now c.args.order.now k i c.requires.order.1 (omega (arith, c.loop-place-test.true)) refl in
    let long = fields_long c.args.context.now.registry.now c.args.items.now c.args.fields.now c.requires.fits in (
      omega (arith, part_nodes c.args.items.now i c.index-items-i.result (omega (arith, long, low)) c.index-items-i.is),
      (
        within.0,
        (
          within.1,
          field_fits c.args.context.now.registry.now c.args.items.now c.args.fields.now i c.index-items-i.result c.index-fields-i.result (omega (arith, long, low)) low c.index-items-i.is c.index-fields-i.is c.requires.fits,
        ),
      ),
    )

pub send_in_order-loop-place-preserved : goal.send_in_order-loop-place-preserved
send_in_order-loop-place-preserved g t c =
    let l = c.loop-place in
    let r = c.args.context.now.registry.now in
    let fs = c.args.fields.now in
    let xs = c.args.items.now in
    let i = get_or c.args.order.now l.place-index 0 in
    let at = shown_at r xs fs in
    let low = order_within fs c.args.order.now l.place-index i c.requires.order.1 (omega (arith, c.loop-place-test.true)) refl in
    let long = fields_long r xs fs c.requires.fits in
    let here = place_left c.args.order.now l.place-index i (omega (arith, c.loop-place-test.true)) refl in
    let is = shown_at-is r xs fs i c.index-items-i.result c.index-fields-i.result (omega (arith, long, low)) low c.index-items-i.is c.index-fields-i.is in
    let out = g.S.Serializer.written l.out in
    let named = g.S.Serializer.written c.send_name.new.out in
    let valued = g.S.Serializer.written c.send_value.new.out in
    record {
      whole = λ end after. l.invariant.whole end
          (subst (λ (is : List ℕ). SendsMembers (ordered at fs is) out end) (sym here) (
            named,
            valued,
            search (rules, name_at-is fs i c.index-fields-i.result low c.index-fields-i.is),
            subst (λ d. SendsValue d named valued) (sym is) c.in_ok-send_value.ensures.sends,
            after,
          ));
      nests = λ rest. l.invariant.nests
          (subst (λ (is : List ℕ). members_depth (ordered at fs is) < c.args.left) (sym here)
          (both_below _ _ _ (subst (λ d. depth d ≤ c.args.left - 1) (sym is) c.in_ok-send_value.ensures.nests) c.in_ok-open_map.ensures.left rest));
    }

pub send_in_order-returns-clause-sends : goal.send_in_order-returns-clause-sends
send_in_order-returns-clause-sends g t c =
    let l = c.loop-place in
    let r = c.args.context.now.registry.now in
    let fs = c.args.fields.now in
    let at = shown_at r c.args.items.now fs in
    let order = c.args.order.now in
    let long = fields_long r c.args.items.now fs c.requires.fits in
    let distinct = ap are_distinct (sym (names_again fs)) ∙ c.requires.distinct in
    let all = in_order at fs distinct order c.requires.order ∙ shown_fields-places r c.args.items.now fs long in
    let opened = g.S.Serializer.written c.open_map.new.out in
    let end = g.S.Serializer.written c.close_map.new.out in
    let begun = subst (λ n. Logs (g.S.Serializer.written c.args.out.now) opened (map_begins (Some n))) (sym (ordered_len at fs order)) c.in_ok-open_map.ensures.begins in
    let none : drop l.place-index order ≡ [] = drop_all l.place-index order (omega (arith, c.loop-place-test.false)) in
    on_ok_weaker c.close_map.result (λ e. subst (λ ms. SendsValue (object ms) (g.S.Serializer.written c.args.out.now) end) all (
      opened,
      begun,
      l.invariant.whole end (subst (λ (is : List ℕ). SendsMembers (ordered at fs is) (g.S.Serializer.written l.out) end) (sym none) e),
    )) c.close_map.ensures

pub send_in_order-returns-clause-nests : goal.send_in_order-returns-clause-nests
send_in_order-returns-clause-nests g t c =
    let l = c.loop-place in
    let r = c.args.context.now.registry.now in
    let fs = c.args.fields.now in
    let at = shown_at r c.args.items.now fs in
    let order = c.args.order.now in
    let long = fields_long r c.args.items.now fs c.requires.fits in
    let distinct = ap are_distinct (sym (names_again fs)) ∙ c.requires.distinct in
    let all = in_order at fs distinct order c.requires.order ∙ shown_fields-places r c.args.items.now fs long in
    let none : drop l.place-index order ≡ [] = drop_all l.place-index order (omega (arith, c.loop-place-test.false)) in
    let whole = l.invariant.nests (subst (λ (is : List ℕ). members_depth (ordered at fs is) < c.args.left) (sym none) c.in_ok-open_map.ensures.left) in
    on_ok_weaker c.close_map.result (λ e. subst (λ ms. depth (object ms) ≤ c.args.left) all (object_within _ _ whole)) c.close_map.ensures

-- ---- containers

pub send_value-send_content-requires : goal.send_value-send_content-requires
send_value-send_content-requires g t c κs within =
    let r = c.args.context.now.registry.now in
    let m = c.in-Named-TypeName in
    let name = c.as_str-in-Named-TypeName in
    let here = c.container_with_order in
    let found = sym here.ensures.found ∙ ap (option_map (λ k. container_of k.0.now)) c.in-Some.is in (
      search (rules, the_lemmas),
      (
        within.0,
        (
          within.1,
          (
            container_distinct r here.ensures.well_formed name.result.now (container_of c.in-Some.container.now) found,
            named_fits r c.args.value.now c.args.format.now m.inner m.name name.result.now c.deref-in-Some.result.now (container_of c.in-Some.container.now) m.is-0 m.is-1 name.ensures.value c.deref-in-Some.ensures found
                c.requires.fits,
          ),
        ),
      ),
    )

-- ---- variants

pub send_content-send_variant-requires : goal.send_content-send_variant-requires
send_content-send_variant-requires g t c κs within =
    let m = c.in-Enum-Variant in
    let r = c.args.context.now.registry.now in
    let found = choice-found m.number m.variants.entries c.in-Some.variant c.get.result c.get.ensures.value c.in-Some.is in
    let fit = at_enum (λ t k. fits false r t (content k)) c.args.value.now c.args.container.now m.variants m.number m.inner m.is-0 m.is-1 in
    let all = at_enum (λ t k. nodes t) c.args.value.now c.args.container.now m.variants m.number m.inner m.is-0 m.is-1 in
    let own = ap (λ (v : Value). nodes (tree_of v)) c.deref-in-Some.ensures in (
      omega (arith, all, own),
      (
        within.0,
        (
          within.1,
          ap (λ (v : Value). fits false r (tree_of v) (at_format (payload_shape (payload_of c.in-Some.variant.now.value)))) c.deref-in-Some.ensures
              ∙ payload_fits r (tree_of m.inner.value) m.number m.variants.entries c.in-Some.variant.now found (sym fit ∙ c.requires.fits),
        ),
      ),
    )

pub send_content-returns-in-Some-clause-sends : goal.send_content-returns-in-Some-clause-sends
send_content-returns-in-Some-clause-sends g t c =
    let m = c.in-Enum-Variant in
    let r = c.args.context.now.registry.now in
    let at = at_enum (λ t k. shown r t (json_content k)) c.args.value.now c.args.container.now m.variants m.number m.inner m.is-0 m.is-1 in
    let same = ap (λ (v : Value). shown_choice (shown r (tree_of v)) (Some (choice_named c.in-Some.variant.now))) c.deref-in-Some.ensures
    ∙ ap (λ o. shown_choice (shown r (tree_of m.inner.value)) o)
    (sym (choice-found m.number m.variants.entries c.in-Some.variant c.get.result c.get.ensures.value c.in-Some.is))
    ∙ sym at in
    on_ok_weaker c.send_variant.result (subst (λ d. SendsValue d (g.S.Serializer.written c.args.out.now) (g.S.Serializer.written c.send_variant.new.out)) same) c.send_variant.ensures.sends

pub send_content-returns-in-None-clause-sends : goal.send_content-returns-in-None-clause-sends
send_content-returns-in-None-clause-sends g t c =
    let m = c.in-Enum-Variant in
    let r = c.args.context.now.registry.now in
    let at = at_enum (λ t k. shown r t (json_content k)) c.args.value.now c.args.container.now m.variants m.number m.inner m.is-0 m.is-1 in
    let same : null ≡ shown r (tree_of c.args.value.now) (json_content (container_of c.args.container.now)) =
    ap (λ o. shown_choice (shown r (tree_of m.inner.value)) o) (sym (choice-missing m.number m.variants.entries c.get.result c.get.ensures.value c.in-None.is)) ∙ sym at in
    on_ok_weaker c.send_null.result (subst (λ d. SendsValue d (g.S.Serializer.written c.args.out.now) (g.S.Serializer.written c.send_null.new.out)) same) c.send_null.ensures

pub send_content-returns-in-Some-clause-nests : goal.send_content-returns-in-Some-clause-nests
send_content-returns-in-Some-clause-nests g t c =
    let m = c.in-Enum-Variant in
    let r = c.args.context.now.registry.now in
    let at = at_enum (λ t k. shown r t (json_content k)) c.args.value.now c.args.container.now m.variants m.number m.inner m.is-0 m.is-1 in
    let same = ap (λ (v : Value). shown_choice (shown r (tree_of v)) (Some (choice_named c.in-Some.variant.now))) c.deref-in-Some.ensures
    ∙ ap (λ o. shown_choice (shown r (tree_of m.inner.value)) o)
    (sym (choice-found m.number m.variants.entries c.in-Some.variant c.get.result c.get.ensures.value c.in-Some.is))
    ∙ sym at in
    on_ok_weaker c.send_variant.result (subst (λ d. depth d ≤ c.args.left) same) c.send_variant.ensures.nests

pub send_content-returns-in-None-clause-nests : goal.send_content-returns-in-None-clause-nests
send_content-returns-in-None-clause-nests g t c =
    let m = c.in-Enum-Variant in
    let r = c.args.context.now.registry.now in
    let at = at_enum (λ t k. shown r t (json_content k)) c.args.value.now c.args.container.now m.variants m.number m.inner m.is-0 m.is-1 in
    let same : null ≡ shown r (tree_of c.args.value.now) (json_content (container_of c.args.container.now)) =
    ap (λ o. shown_choice (shown r (tree_of m.inner.value)) o) (sym (choice-missing m.number m.variants.entries c.get.result c.get.ensures.value c.in-None.is)) ∙ sym at in
    let flat : depth null ≤ c.args.left = omega arith in
    on_ok_weaker c.send_null.result (λ e. subst (λ d. depth d ≤ c.args.left) same flat) c.send_null.ensures
