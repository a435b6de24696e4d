use Rattle.bcs_registry_json.proofs.Prelude.{◌≡◌, ◌∙◌, map, take, ap, arith, take_all, items_of}
use Rattle.bcs_registry_json.proofs.ShownParts.{field_data, items_fields}
use Rattle.bcs_registry_json.proofs.printing.formats.field_values.Goals as goal

pub returns : goal.returns
returns c =
    let fields = c.deref-field-items.result.now in
    let all : take c.loop-field.field-index fields ≡ fields = take_all c.loop-field.field-index fields (omega arith) in
    ap items_of (c.loop-field.invariant ∙ ap (map field_data) (all ∙ c.deref-field-items.ensures.value)) ∙ items_fields c.args.fields.now.items
