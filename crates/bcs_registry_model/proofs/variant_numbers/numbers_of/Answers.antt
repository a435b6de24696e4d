use Rattle.bcs_registry_model.proofs.Prelude.{◌∙◌, sym}
use Rattle.bcs_registry_model.proofs.Rising.{Variant}
use Rattle.bcs_registry_model.proofs.Gathering.{variant_put, variant_passed}
use Rattle.bcs_registry_model.proofs.variant_numbers.numbers_of.Goals as goal

pub loop-number-preserved-then-not-contains_key : goal.loop-number-preserved-then-not-contains_key
loop-number-preserved-then-not-contains_key c = λ word.
    let v : Variant = (c.in-Some.number.now, c.in-Some.variant.now) in
    sym (variant_put c.loop-number.numbers c.insert.new.self c.loop-number.number-iterator c.next.new.self v c.as_str.result.now c.in_ok-clone.field-0 c.contains_key.result
    c.in-Some.ensures.steps c.as_str.ensures.value c.in_ok-clone.ensures.cases c.contains_key.ensures c.if-not-contains_key.true c.in_ok-insert.ensures.updates word)
    ∙ c.loop-number.invariant word

pub loop-number-preserved : goal.loop-number-preserved
loop-number-preserved c = λ word.
    let v : Variant = (c.in-Some.number.now, c.in-Some.variant.now) in
    sym (variant_passed c.loop-number.numbers c.loop-number.number-iterator c.next.new.self v c.as_str.result.now c.contains_key.result
    c.in-Some.ensures.steps c.as_str.ensures.value c.contains_key.ensures c.if-not-contains_key.false word)
    ∙ c.loop-number.invariant word
