use Rattle.bcs_value_model.proofs.Prelude.{◌≡◌, ap, ◌∙◌, rules, same_from_all_zip, bytes}
use Rattle.bcs_value_model.proofs.Views.{tree_of_bytes}
use Rattle.bcs_value_model.proofs.copying.copy_bytes.Goals as goal

pub returns : goal.returns
returns c =
    let e : c.in_ok-clone.field-0.items ≡ c.args.bytes.now.items = search (rules, same_from_all_zip) in
    tree_of_bytes c.in_ok-clone.field-0 ∙ ap bytes e
