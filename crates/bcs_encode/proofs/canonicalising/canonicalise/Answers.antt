use Rattle.std.proofs.Common.{rules}
use Rattle.bcs_encode.proofs.canonicalising.canonicalise.Goals as goal

pub returns-clause-form : goal.returns-clause-form
returns-clause-form c = search rules
