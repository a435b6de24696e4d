use Rattle.bcs_decode_slice.proofs.Prelude.{rules}
use Rattle.bcs_decode_slice.proofs.cursor.node.Goals as goal

pub returns-then-cursor-eq0-clause-onward : goal.returns-then-cursor-eq0-clause-onward
returns-then-cursor-eq0-clause-onward c = search rules

pub returns-clause-onward : goal.returns-clause-onward
returns-clause-onward c = search rules
