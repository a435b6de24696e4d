use Rattle.bcs_num.proofs.Prelude.{rules}
use Rattle.bcs_num.proofs.width.Width.holds_unsigned.Goals as goal

pub returns-clause-test : goal.returns-clause-test
returns-clause-test c = search rules

pub returns-clause-exact : goal.returns-clause-exact
returns-clause-exact c = search rules
