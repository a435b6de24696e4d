use Rattle.bcs_registry_json.proofs.Prelude.{◌≡◌, ◌∙◌, ap, arith, codes, refl, rules, err_from_is_err_and, view-Object, member, no_members, object, view, are_formats, is_format, is_map, is_size, is_tuple, is_tuple_array}
use Rattle.bcs_registry_json.proofs.FormatText.{fits_format, tuple_written, value_word}
use Rattle.bcs_registry_json.proofs.ShownParts.{format_data}
use Rattle.bcs_registry_json.proofs.Rows.{element_fault, element_shallow, row_all, row_more, second_fault}
use Rattle.bcs_registry_json.proofs.format_text.+format_text.Goals as goal

pub format_from-returns-in-String-clause-ok : goal.format_from-returns-in-String-clause-ok
format_from-returns-in-String-clause-ok t c =
    value_word c.args.value.now c.in-String.word c.as_str.result.now c.word_format.result _ c.ok_or.result c.in-String.is c.as_str.ensures.value c.word_format.ensures c.ok_or.ensures.value

pub formats_from-format_from-requires : goal.formats_from-format_from-requires
formats_from-format_from-requires t c =
    let less = element_shallow c.args.value.now c.in-Array.parts c.deref-part-items.result.now c.loop-part.part-index c.part-item.result c.in-Array.is c.deref-part-items.ensures.value c.loop-part-test.true c.part-item.is in
    (omega (arith, less), tt)

pub formats_from-returns-in_err-format_from-clause-fault : goal.formats_from-returns-in_err-format_from-clause-fault
formats_from-returns-in_err-format_from-clause-fault t c =
    let p = err_from_is_err_and c.from_residual.result c.from_residual.ensures.1 in
    rw (p.1, p.2) (element_fault (λ loose. is_format loose) (λ loose. are_formats loose) (λ loose. is_tuple loose) (λ loose d ds. refl) (λ loose ds. refl)
    c.args.value.now c.in-Array.parts c.deref-part-items.result.now c.loop-part.part-index c.part-item.result _ c.in-Array.is c.deref-part-items.ensures.value c.loop-part-test.true c.part-item.is
    c.in_err-format_from.ensures.fault)

pub formats_from-loop-part-preserved : goal.formats_from-loop-part-preserved
formats_from-loop-part-preserved t c =
    let f = c.in_ok-format_from.field-0 in
    let written = c.in_ok-format_from.ensures.ok in
    row_more format_data fits_format c.deref-part-items.result.now c.loop-part.part-index c.part-item.result c.loop-part.formats.items c.push.new.self.items f
    c.loop-part-test.true c.part-item.is (search rules) written.is written.sizes c.loop-part.invariant

pub formats_from-returns-clause-ok : goal.formats_from-returns-clause-ok
formats_from-returns-clause-ok t c =
    tuple_written c.args.value.now c.in-Array.parts c.deref-part-items.result.now c.loop-part.formats.items c.in-Array.is c.deref-part-items.ensures.value
    (row_all format_data fits_format c.deref-part-items.result.now c.loop-part.part-index c.loop-part.formats.items c.loop-part-test.false c.loop-part.invariant)
    c.loop-part.invariant.fit

pub map_from-returns-in_err-value-clause-fault : goal.map_from-returns-in_err-value-clause-fault
map_from-returns-in_err-value-clause-fault t c =
    let p = err_from_is_err_and c.from_residual-in_err-value.result c.from_residual-in_err-value.ensures.1 in
    let parts : view c.args.value.now ≡ object (member (codes "KEY") (view c.in-Some.key.now) (member (codes "VALUE") (view c.in-Some.value.now) no_members)) =
    ap view c.in-Object.is ∙ view-Object c.in-Object.members ∙ ap object c.in-Some.ensures.some in
    rw (p.1, p.2) (second_fault (λ loose. is_format loose (view c.in-Some.key.now)) (λ loose. is_format loose (view c.in-Some.value.now)) (λ loose. is_map loose (view c.args.value.now)) _
    (λ loose. ap (is_map loose) parts) c.in_err-value.ensures.fault)

pub tuple_array_from-returns-in_err-size-clause-fault : goal.tuple_array_from-returns-in_err-size-clause-fault
tuple_array_from-returns-in_err-size-clause-fault t c =
    let p = err_from_is_err_and c.from_residual-in_err-size.result c.from_residual-in_err-size.ensures.1 in
    let parts : view c.args.value.now ≡ object (member (codes "CONTENT") (view c.in-Some.content.now) (member (codes "SIZE") (view c.in-Some.size.now) no_members)) =
    ap view c.in-Object.is ∙ view-Object c.in-Object.members ∙ ap object c.in-Some.ensures.some in
    rw (p.1, p.2) (second_fault (λ loose. is_format loose (view c.in-Some.content.now)) (λ loose. is_size loose (view c.in-Some.size.now)) (λ loose. is_tuple_array loose (view c.args.value.now)) _
    (λ loose. ap (is_tuple_array loose) parts) c.in_err-size.ensures.fault)
