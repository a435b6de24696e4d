use Rattle.bcs_decode_slice.proofs.Prelude.{rules}
use Rattle.bcs_decode_slice.proofs.shallow.enter.Goals as goal

pub returns-then-depth-eq0-clause-onward : goal.returns-then-depth-eq0-clause-onward
returns-then-depth-eq0-clause-onward c = search rules

pub returns-then-depth-eq0-clause-positive : goal.returns-then-depth-eq0-clause-positive
returns-then-depth-eq0-clause-positive c = search rules

pub returns-clause-onward : goal.returns-clause-onward
returns-clause-onward c = search rules

pub returns-clause-positive : goal.returns-clause-positive
returns-clause-positive c = search rules
