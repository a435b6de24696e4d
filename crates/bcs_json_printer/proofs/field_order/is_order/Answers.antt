use Rattle.std.proofs.Common.{ap, arith, get_or, length, refl, sym, ◌<◌, ◌∙◌}
use Rattle.bcs_json_printer.proofs.Prelude.{name_of}
use Rattle.bcs_json_printer.proofs.FieldOrder.{ascends_more}
use Rattle.bcs_json_printer.proofs.field_order.is_order.Goals as goal

pub loop-place-preserved : goal.loop-place-preserved
loop-place-preserved c =
    let l = c.loop-place in
    let fs = c.args.fields.now in
    let rest = c.in-Some.rest.now in
    let place = get_or rest l.place-index 0 in
    let within : place < length fs = omega (arith, c.if-place-fields.false) in record {
      bound = within;
      whole = λ h. l.invariant.whole
          (ascends_more fs l.before place c.index-fields-before.result c.index-fields-place.result c.as_str.result.now c.as_str-in-loop-place.result.now c.cmp.result rest l.place-index l.invariant.bound within
          c.index-fields-before.is c.index-fields-place.is (c.as_str.ensures.value ∙ ap name_of (sym c.index-fields-before.is)) (c.as_str-in-loop-place.ensures.value ∙ ap name_of (sym c.index-fields-place.is)) c.cmp.ensures c.in-Less.is (omega (arith, c.loop-place-test.true)) refl h);
    }
