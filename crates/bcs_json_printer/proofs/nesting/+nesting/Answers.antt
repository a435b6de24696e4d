use Rattle.bcs_json_printer.proofs.Prelude.{◌∙◌, nat_le, map, Some, sym, ap, arith, rules, option_map, common_steps, list_all, depth, container_of, choice_of, are_distinct, container_names, tree_of, the_lemmas, json_content, of, shown, shown_choice, container_distinct, payload_distinct}
use Rattle.bcs_json_printer.proofs.ShownViews.{at_map, at_enum, at_struct, choice_named, choice-found, choice-missing}
use Rattle.bcs_json_printer.proofs.ShownDepths.{le_zero, field_more, distinct_more}
use Rattle.bcs_json_printer.proofs.SentRows.{entry_nodes, part_nodes}
use Rattle.bcs_json_printer.proofs.nesting.+nesting.Goals as goal

-- ---- the parts of a list are smaller than the list

pub all_nest_within-shown_nests_within-requires : goal.all_nest_within-shown_nests_within-requires
all_nest_within-shown_nests_within-requires t c = (omega (arith, part_nodes c.args.items.now c.loop-item.item-index c.item-item.result (omega arith) c.item-item.is), tt)

pub each_nests_within-shown_nests_within-requires : goal.each_nests_within-shown_nests_within-requires
each_nests_within-shown_nests_within-requires t c = (omega (arith, part_nodes c.args.items.now c.loop-i.i c.index-items-i.result (omega arith) c.index-items-i.is), tt)

pub fields_nest_within-shown_nests_within-requires : goal.fields_nest_within-shown_nests_within-requires
fields_nest_within-shown_nests_within-requires t c = (omega (arith, part_nodes c.args.items.now c.loop-i.i c.index-items-i.result (omega arith) c.index-items-i.is), tt)

pub pairs_nest_within-shown_nests_within-requires : goal.pairs_nest_within-shown_nests_within-requires
pairs_nest_within-shown_nests_within-requires t c = (omega (arith, (entry_nodes c.args.pairs.now c.loop-k.k-index c.loop-k-item.result (omega arith) c.loop-k-item.is).0), tt)

pub pairs_nest_within-shown_nests_within-requires-else-not-shown_nests_within : goal.pairs_nest_within-shown_nests_within-requires-else-not-shown_nests_within
pairs_nest_within-shown_nests_within-requires-else-not-shown_nests_within t c = (omega (arith, (entry_nodes c.args.pairs.now c.loop-k.k-index c.loop-k-item.result (omega arith) c.loop-k-item.is).1), tt)

-- ---- the JSON

pub content_nests_within-variant_nests_within-requires : goal.content_nests_within-variant_nests_within-requires
content_nests_within-variant_nests_within-requires t c =
    let m = c.in-Enum-Variant in (
      search (rules, the_lemmas),
      payload_distinct (map choice_of m.variants.entries) (ap (λ k. list_all are_distinct (container_names (container_of k))) (sym m.is-0) ∙ c.requires.distinct)
          m.number (choice_named c.in-Some.variant.now) (choice-found m.number m.variants.entries c.in-Some.variant c.get.result c.get.ensures.value c.in-Some.is),
    )

pub content_nests_within-returns-then-limit-gt0-2 : goal.content_nests_within-returns-then-limit-gt0-2
content_nests_within-returns-then-limit-gt0-2 t c =
    let m = c.in-Struct-Items in
    let at = at_struct (λ t k. nat_le (depth (shown c.args.registry.now t (json_content k))) c.args.limit) c.args.value.now c.args.container.now m.fields m.items m.is-0 m.is-1 in
    grind (arith, common_steps)

pub content_nests_within-returns-in-Some : goal.content_nests_within-returns-in-Some
content_nests_within-returns-in-Some t c =
    let m = c.in-Enum-Variant in
    let at = at_enum (λ t k. nat_le (depth (shown c.args.registry.now t (json_content k))) c.args.limit) c.args.value.now c.args.container.now m.variants m.number m.inner m.is-0 m.is-1 in
    c.variant_nests_within.ensures
    ∙ ap (λ v. nat_le (depth (shown_choice (shown c.args.registry.now (tree_of v)) (Some (choice_named c.in-Some.variant.now)))) c.args.limit) c.deref-in-Some.ensures
    ∙ ap (λ o. nat_le (depth (shown_choice (shown c.args.registry.now (tree_of m.inner.value)) o)) c.args.limit)
    (sym (choice-found m.number m.variants.entries c.in-Some.variant c.get.result c.get.ensures.value c.in-Some.is))
    ∙ sym at

pub content_nests_within-returns-in-None : goal.content_nests_within-returns-in-None
content_nests_within-returns-in-None t c =
    let m = c.in-Enum-Variant in
    let at = at_enum (λ t k. nat_le (depth (shown c.args.registry.now t (json_content k))) c.args.limit) c.args.value.now c.args.container.now m.variants m.number m.inner m.is-0 m.is-1 in
    le_zero c.args.limit ∙ ap (λ o. nat_le (depth (shown_choice (shown c.args.registry.now (tree_of m.inner.value)) o)) c.args.limit)
    (sym (choice-missing m.number m.variants.entries c.get.result c.get.ensures.value c.in-None.is))
    ∙ sym at

pub fields_nest_within-returns-then-not-shown_nests_within : goal.fields_nest_within-returns-then-not-shown_nests_within
fields_nest_within-returns-then-not-shown_nests_within t c =
    let l = c.loop-i in
    let more = field_more c.args.registry.now c.args.items.now c.args.fields.now l.i c.index-items-i.result c.index-fields-i.result c.args.limit (omega arith) (omega arith) c.index-items-i.is c.index-fields-i.is l.invariant.distinct in
    sym (l.invariant.left ∙ more ∙ grind (arith, common_steps))

pub fields_nest_within-loop-i-preserved : goal.fields_nest_within-loop-i-preserved
fields_nest_within-loop-i-preserved t c =
    let l = c.loop-i in
    let more = field_more c.args.registry.now c.args.items.now c.args.fields.now l.i c.index-items-i.result c.index-fields-i.result c.args.limit (omega arith) (omega arith) c.index-items-i.is c.index-fields-i.is l.invariant.distinct in record {
      left = l.invariant.left ∙ more ∙ grind (arith, common_steps);
      distinct = distinct_more c.args.fields.now l.i c.index-fields-i.result (omega arith) c.index-fields-i.is l.invariant.distinct;
    }

pub shown_nests_within-content_nests_within-requires : goal.shown_nests_within-content_nests_within-requires
shown_nests_within-content_nests_within-requires t c = (
  search (rules, the_lemmas),
  container_distinct c.args.registry.now c.container.ensures.well_formed c.as_str.result.now (container_of c.in-Some.container.now) (sym c.container.ensures.found ∙ ap (option_map (λ k. container_of k.now)) c.in-Some.is),
)

pub shown_nests_within-returns-then-limit-gt0-3 : goal.shown_nests_within-returns-then-limit-gt0-3
shown_nests_within-returns-then-limit-gt0-3 t c =
    let m = c.in-Pairs-Map in
    let at = at_map (λ t s. nat_le (depth (shown c.args.registry.now t (of s))) c.args.limit) c.args.value.now c.args.format.now m.pairs m.key m.value m.is-0 m.is-1 in
    grind (arith, common_steps)
