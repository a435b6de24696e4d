use Rattle.bcs_num.proofs.Prelude.{rules}
use Rattle.bcs_num.proofs.width.Width.holds_signed.Goals as goal

pub returns-then-number-lt0-clause-test : goal.returns-then-number-lt0-clause-test
returns-then-number-lt0-clause-test c = search rules

pub returns-then-number-lt0-clause-exact : goal.returns-then-number-lt0-clause-exact
returns-then-number-lt0-clause-exact c = search rules

pub returns-else-number-lt0-clause-test : goal.returns-else-number-lt0-clause-test
returns-else-number-lt0-clause-test c = search rules

pub returns-else-number-lt0-clause-exact : goal.returns-else-number-lt0-clause-exact
returns-else-number-lt0-clause-exact c = search rules
