use Rattle.bcs_decode_slice.proofs.Prelude.{rules}
use Rattle.bcs_decode_slice.proofs.cursor.end_of_input.Goals as goal

pub returns-clause-reason : goal.returns-clause-reason
returns-clause-reason c = search rules

pub returns-clause-place : goal.returns-clause-place
returns-clause-place c = search rules
