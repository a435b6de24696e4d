use Rattle.bcs_value.proofs.Prelude.{rules}
use Rattle.bcs_value.proofs.limits.Limits.new.Goals as goal

pub returns-then-depth-gt-DEPTH_LIMIT-clause-some : goal.returns-then-depth-gt-DEPTH_LIMIT-clause-some
returns-then-depth-gt-DEPTH_LIMIT-clause-some c = search rules

pub returns-then-depth-gt-DEPTH_LIMIT-clause-none : goal.returns-then-depth-gt-DEPTH_LIMIT-clause-none
returns-then-depth-gt-DEPTH_LIMIT-clause-none c = search rules

pub returns-else-depth-gt-DEPTH_LIMIT-clause-some : goal.returns-else-depth-gt-DEPTH_LIMIT-clause-some
returns-else-depth-gt-DEPTH_LIMIT-clause-some c = search rules

pub returns-else-depth-gt-DEPTH_LIMIT-clause-none : goal.returns-else-depth-gt-DEPTH_LIMIT-clause-none
returns-else-depth-gt-DEPTH_LIMIT-clause-none c = search rules
