use Rattle.bcs_registry_model.proofs.Prelude.{string_bytes, ap, ◌∙◌, are_distinct}
use Rattle.bcs_registry_model.proofs.Inside.{field_names-fields}
use Rattle.bcs_registry_model.proofs.DistinctNames.{are_distinct-from_none, all_new-step}
use Rattle.bcs_registry_model.proofs.distinct.differ_by_set.Goals as goal

pub loop-field-init : goal.loop-field-init
loop-field-init c = ap are_distinct (field_names-fields c.args.fields.now) ∙ are_distinct-from_none c.new-seen.result _ c.new-seen.ensures.empty

pub loop-field-preserved : goal.loop-field-preserved
loop-field-preserved c =
    c.loop-field.invariant
    ∙ all_new-step (λ f. string_bytes f.name) c.args.fields.now c.loop-field.field-index c.field-item.result c.loop-field.seen c.insert.new.self c.as_str.result c.in_ok-insert.field-0
    c.loop-field-test.true c.field-item.is c.as_str.ensures.value c.if-not-branch.false c.in_ok-insert.ensures.added c.in_ok-insert.ensures.updates
