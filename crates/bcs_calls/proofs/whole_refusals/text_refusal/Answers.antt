use Rattle.bcs_calls.proofs.Prelude.{tree_of, stands}
use Rattle.bcs_calls.proofs.whole_refusals.text_refusal.Goals as goal

pub returns-in-Ok-clause-answers : goal.returns-in-Ok-clause-answers
returns-in-Ok-clause-answers c = stands (tree_of c.in-Ok.field-0) c.in-Ok.ensures.denotes c.plain.ensures

pub returns-clause-answers : goal.returns-clause-answers
returns-clause-answers c = c.told_refusal.ensures.answers c.in-Err.ensures.refused
