use Rattle.std.proofs.Common.{◌∙◌, sym}
use Rattle.bcs_part_labels.proofs.Plain.{plain_some}
use Rattle.bcs_part_labels.proofs.labels.is_plain.Goals as goal

pub returns-then-not-is_empty : goal.returns-then-not-is_empty
returns-then-not-is_empty c = c.are_plain.ensures ∙ plain_some c.args.name.now (sym c.is_empty.ensures ∙ c.if-not-is_empty.true)
