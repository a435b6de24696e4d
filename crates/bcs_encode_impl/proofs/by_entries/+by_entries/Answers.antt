use Rattle.bcs_encode_impl.proofs.Prelude.{◌∙◌, arith, rules, common_steps}
use Rattle.bcs_encode_impl.proofs.WritingViews.{reports_along, array_refused, array_written, list_written, tuple_written, fields_written, map_written, variant_written, no_variant_written}
use Rattle.bcs_encode_impl.proofs.by_entries.+by_entries.Goals as goal

pub push_value-returns-in_err-push_length-in-Items-Seq : goal.push_value-returns-in_err-push_length-in-Items-Seq
push_value-returns-in_err-push_length-in-Items-Seq t c =
    let m = c.in-Items-Seq in
    reports_along _ _ _ _ (list_written c.args.registry.now c.args.value.now c.args.format.now m.items m.element c.len.result c.args.out.now.items m.is-0 m.is-1 (search rules)) (search rules)

pub push_value-returns-in_ok-push_length-in-Items-Seq : goal.push_value-returns-in_ok-push_length-in-Items-Seq
push_value-returns-in_ok-push_length-in-Items-Seq t c =
    let m = c.in-Items-Seq in
    reports_along _ _ _ _ (list_written c.args.registry.now c.args.value.now c.args.format.now m.items m.element c.len.result c.args.out.now.items m.is-0 m.is-1 (search rules)) (search rules)

pub push_value-returns-then-len-size : goal.push_value-returns-then-len-size
push_value-returns-then-len-size t c _ =
    let m = c.in-Items-TupleArray in
    array_refused c.args.registry.now c.args.value.now c.args.format.now m.items m.element m.size c.len-in-Items-TupleArray.result c.args.out.now.items m.is-0 m.is-1 (search rules) c.if-len-size.true

pub push_value-returns-else-len-size : goal.push_value-returns-else-len-size
push_value-returns-else-len-size t c =
    let m = c.in-Items-TupleArray in
    reports_along _ _ _ _ (array_written c.args.registry.now c.args.value.now c.args.format.now m.items m.element m.size c.len-in-Items-TupleArray.result c.args.out.now.items m.is-0 m.is-1 (search rules) (search rules)) (search rules)

pub push_value-returns-in_err-push_length-in-Pairs-Map : goal.push_value-returns-in_err-push_length-in-Pairs-Map
push_value-returns-in_err-push_length-in-Pairs-Map t c =
    let m = c.in-Pairs-Map in
    reports_along _ _ _ _ (map_written c.args.registry.now c.args.value.now c.args.format.now m.pairs m.key m.value c.len-in-Pairs-Map.result c.args.out.now.items m.is-0 m.is-1 (search rules)) (search rules)

pub push_value-returns-in_err-collect_entries-in-Pairs-Map : goal.push_value-returns-in_err-collect_entries-in-Pairs-Map
push_value-returns-in_err-collect_entries-in-Pairs-Map t c =
    let m = c.in-Pairs-Map in
    reports_along _ _ _ _ (map_written c.args.registry.now c.args.value.now c.args.format.now m.pairs m.key m.value c.len-in-Pairs-Map.result c.args.out.now.items m.is-0 m.is-1 (search rules)) (search rules)

pub push_value-returns-in_ok-collect_entries-in-Pairs-Map : goal.push_value-returns-in_ok-collect_entries-in-Pairs-Map
push_value-returns-in_ok-collect_entries-in-Pairs-Map t c =
    let m = c.in-Pairs-Map in
    reports_along _ _ _ _ (map_written c.args.registry.now c.args.value.now c.args.format.now m.pairs m.key m.value c.len-in-Pairs-Map.result c.args.out.now.items m.is-0 m.is-1 (search rules)) (search rules)

pub push_content-returns-in-Some : goal.push_content-returns-in-Some
push_content-returns-in-Some t c =
    let m = c.in-Enum-Variant in
    reports_along _ _ _ _ (variant_written c.args.registry.now c.args.value.now c.args.container.now m.variants m.number m.inner c.in-Some.variant c.get.result c.args.out.now.items m.is-0 m.is-1 c.get.ensures.value c.in-Some.is) (search rules)

pub push_content-returns-in-None : goal.push_content-returns-in-None
push_content-returns-in-None t c _ =
    let m = c.in-Enum-Variant in
    no_variant_written c.args.registry.now c.args.value.now c.args.container.now m.variants m.number m.inner c.get.result c.args.out.now.items m.is-0 m.is-1 c.get.ensures.value c.in-None.is

pub push_each-returns-in_err-push_value : goal.push_each-returns-in_err-push_value
push_each-returns-in_err-push_value t c =
    reports_along c.from_residual.result _ _ _ (tuple_written c.args.registry.now c.args.items.now c.args.formats.now c.args.out.now.items (omega arith)) (grind (arith, common_steps))

pub push_each-returns : goal.push_each-returns
push_each-returns t c =
    tuple_written c.args.registry.now c.args.items.now c.args.formats.now c.args.out.now.items (omega arith) ∙ grind (arith, common_steps)

pub push_fields-returns-in_err-push_value : goal.push_fields-returns-in_err-push_value
push_fields-returns-in_err-push_value t c =
    reports_along c.from_residual.result _ _ _ (fields_written c.args.registry.now c.args.items.now c.args.fields.now c.args.out.now.items (omega arith)) (grind (arith, common_steps))

pub push_fields-returns : goal.push_fields-returns
push_fields-returns t c =
    fields_written c.args.registry.now c.args.items.now c.args.fields.now c.args.out.now.items (omega arith) ∙ grind (arith, common_steps)
