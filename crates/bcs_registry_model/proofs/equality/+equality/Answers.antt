use Rattle.bcs_registry_model.proofs.Prelude.{sym}
use Rattle.bcs_registry_model.proofs.Sameness.{same_shapes-unlike}
use Rattle.bcs_registry_model.proofs.equality.+equality.Goals as goal

pub are_same_formats-returns-then-ones-others : goal.are_same_formats-returns-then-ones-others
are_same_formats-returns-then-ones-others t c = sym (same_shapes-unlike c.args.ones.now c.args.others.now c.if-ones-others.true)
