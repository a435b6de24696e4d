use Rattle.std.proofs.Common.{arith}
use Rattle.std.proofs.lemmas.Grind.{common_steps}
use Rattle.bcs_display_text.proofs.columns.put_place.Goals as goal

pub returns : goal.returns
returns c = grind (arith, common_steps)
