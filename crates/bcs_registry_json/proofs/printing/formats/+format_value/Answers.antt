use Rattle.bcs_registry_json.proofs.Prelude.{◌≡◌, ◌∙◌, map, take, ap, arith, take_all, items_of}
use Rattle.bcs_registry_json.proofs.ShownParts.{format_data, items_formats}
use Rattle.bcs_registry_json.proofs.printing.formats.+format_value.Goals as goal

pub format_values-returns : goal.format_values-returns
format_values-returns t c =
    let formats = c.args.formats.now in
    let all : take c.loop-format.format-index formats ≡ formats = take_all c.loop-format.format-index formats (omega arith) in
    ap items_of (c.loop-format.invariant.shown ∙ ap (map format_data) all) ∙ items_formats formats
