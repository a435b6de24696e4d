use Rattle.bcs_registry_json.proofs.Prelude.{refl, rules, err_from_is_err_and, all_fields, are_fields, is_field}
use Rattle.bcs_registry_json.proofs.ContainerText.{fields_written, fits_field}
use Rattle.bcs_registry_json.proofs.ShownParts.{field_data}
use Rattle.bcs_registry_json.proofs.Rows.{element_fault, row_all, row_more}
use Rattle.bcs_registry_json.proofs.container_text.fields_from.Goals as goal

pub returns-in_err-field_from-clause-fault : goal.returns-in_err-field_from-clause-fault
returns-in_err-field_from-clause-fault c =
    let p = err_from_is_err_and c.from_residual.result c.from_residual.ensures.1 in
    rw (p.1, p.2) (element_fault (λ loose. is_field loose) (λ loose. all_fields loose) (λ loose. are_fields loose) (λ loose d ds. refl) (λ loose ds. refl)
    c.args.value.now c.in-Array.parts c.deref-part-items.result.now c.loop-part.part-index c.part-item.result _ c.in-Array.is c.deref-part-items.ensures.value c.loop-part-test.true c.part-item.is
    c.in_err-field_from.ensures.fault)

pub loop-part-preserved : goal.loop-part-preserved
loop-part-preserved c =
    let f = c.in_ok-field_from.field-0 in
    let written = c.in_ok-field_from.ensures.ok in
    row_more field_data fits_field c.deref-part-items.result.now c.loop-part.part-index c.part-item.result c.loop-part.fields.items c.push.new.self.items f
    c.loop-part-test.true c.part-item.is (search rules) written.is written.sizes c.loop-part.invariant

pub returns-clause-ok : goal.returns-clause-ok
returns-clause-ok c =
    fields_written c.args.value.now c.in-Array.parts c.deref-part-items.result.now c.loop-part.fields.items c.in-Array.is c.deref-part-items.ensures.value
    (row_all field_data fits_field c.deref-part-items.result.now c.loop-part.part-index c.loop-part.fields.items c.loop-part-test.false c.loop-part.invariant)
    c.loop-part.invariant.fit
