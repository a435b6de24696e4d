use Rattle.bcs_registry_json.proofs.Prelude.{◌≡◌, ◌∙◌, None, ap, decimal, rules, string_bytes, sym, err_from_is_err_and, Entry, view, is_variant_number}
use Rattle.bcs_registry_json.proofs.Variants.{number_fault, one_variant, variant_fault, variants_written}
use Rattle.bcs_registry_json.proofs.container_text.variants_from.Goals as goal

pub returns-in_default-variant_number-clause-fault : goal.returns-in_default-variant_number-clause-fault
returns-in_default-variant_number-clause-fault c =
    let e : Entry = (c.in-Some.digits.now, c.in-Some.part.now) in
    let none : c.variant_number.result ≡ None = search rules in
    let no_number = ap is_variant_number (sym c.as_str.ensures.value) ∙ c.variant_number.ensures.none none in
    number_fault (view c.args.value.now) c.loop-digits.digits-iterator c.next.new.self e c.loop-digits.variants.entries c.loop-digits.invariant c.in-Some.ensures.steps no_number

pub returns-in_err-variant-clause-fault : goal.returns-in_err-variant-clause-fault
returns-in_err-variant-clause-fault c =
    let e : Entry = (c.in-Some.digits.now, c.in-Some.part.now) in
    let p = err_from_is_err_and c.from_residual.result c.from_residual.ensures.1 in
    rw (p.1, p.2)
    (variant_fault (view c.args.value.now) c.loop-digits.digits-iterator c.next.new.self e c.loop-digits.variants.entries c.loop-digits.invariant c.in-Some.ensures.steps _ c.in_err-variant.ensures.fault)

pub loop-digits-preserved : goal.loop-digits-preserved
loop-digits-preserved c =
    let e : Entry = (c.in-Some.digits.now, c.in-Some.part.now) in
    let plain = c.in-Some-variant_number.ensures.some in
    let written : string_bytes e.0 ≡ decimal c.in-Some-variant_number.number = sym c.as_str.ensures.value ∙ plain.1 in
    one_variant (view c.args.value.now) c.loop-digits.digits-iterator c.next.new.self e c.loop-digits.variants.entries c.insert.new.self.entries
    c.in-Some-variant_number.number c.in_ok-variant.variant c.loop-digits.invariant c.in-Some.ensures.steps
    c.in_ok-insert.ensures.entries c.insert.ensures.ordered plain.0 written c.in_ok-variant.ensures.ok

pub returns-clause-ok : goal.returns-clause-ok
returns-clause-ok c =
    variants_written (view c.args.value.now) c.loop-digits.digits-iterator c.loop-digits.variants.entries c.loop-digits.invariant c.in-None.ensures.steps.0
