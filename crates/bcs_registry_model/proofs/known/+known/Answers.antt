use Rattle.bcs_registry_model.proofs.Prelude.{true, false, sym, ◌∙◌}
use Rattle.bcs_registry_model.proofs.KnownNames.{is_known-name}
use Rattle.bcs_registry_model.proofs.known.+known.Goals as goal

pub first_unknown-returns-then-contains_key : goal.first_unknown-returns-then-contains_key
first_unknown-returns-then-contains_key t c =
    is_known-name c.args.format.now c.in-TypeName.name c.as_str.result.now c.args.containers.now.entries.items true c.in-TypeName.is c.as_str.ensures.value (sym c.if-contains_key.true ∙ c.contains_key.ensures)

pub first_unknown-returns-else-contains_key : goal.first_unknown-returns-else-contains_key
first_unknown-returns-else-contains_key t c =
    is_known-name c.args.format.now c.in-TypeName.name c.as_str.result.now c.args.containers.now.entries.items false c.in-TypeName.is c.as_str.ensures.value (sym c.if-contains_key.false ∙ c.contains_key.ensures)
