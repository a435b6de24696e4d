use Rattle.bcs_json_reader.proofs.Prelude.{arith, common_steps}
use Rattle.bcs_json_reader.proofs.arrays.two_items.Goals as goal

pub returns-then-is_none-clause-ok : goal.returns-then-is_none-clause-ok
returns-then-is_none-clause-ok c = grind (arith, common_steps)
