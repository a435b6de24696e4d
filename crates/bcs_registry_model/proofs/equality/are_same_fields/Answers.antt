use Rattle.bcs_registry_model.proofs.Prelude.{sym}
use Rattle.bcs_registry_model.proofs.Sameness.{same_fields-unlike}
use Rattle.bcs_registry_model.proofs.equality.are_same_fields.Goals as goal

pub returns-then-ones-others : goal.returns-then-ones-others
returns-then-ones-others c = sym (same_fields-unlike c.args.ones.now c.args.others.now c.if-ones-others.true)
