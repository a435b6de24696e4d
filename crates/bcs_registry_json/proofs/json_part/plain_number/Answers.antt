use Rattle.bcs_registry_json.proofs.Prelude.{◌≡◌, ◌∙◌, Some, ap, rules, sym, number_of-decimal, unsigned, number_of}
use Rattle.bcs_registry_json.proofs.json_part.plain_number.Goals as goal

pub returns : goal.returns
returns c =
    let n = c.in_ok-number.number in
    let plain = c.in_ok-number.ensures.found in
    let same : c.in_ok-ok.field-0 ≡ n = search rules in
    ap number_of plain.1 ∙ number_of-decimal n plain.0 ∙ ap (λ m. Some (unsigned m)) (sym same) ∙ ap Some (sym c.from.ensures)
