use Rattle.bcs_num.proofs.Prelude.{rules}
use Rattle.bcs_num.proofs.decimal.parse_unsigned.Goals as goal

pub returns-in_err-n-clause-found : goal.returns-in_err-n-clause-found
returns-in_err-n-clause-found c = search rules

pub returns-in_err-n-clause-only : goal.returns-in_err-n-clause-only
returns-in_err-n-clause-only c = search rules

pub returns-then-holds_unsigned-clause-found : goal.returns-then-holds_unsigned-clause-found
returns-then-holds_unsigned-clause-found c = search rules

pub returns-then-holds_unsigned-clause-only : goal.returns-then-holds_unsigned-clause-only
returns-then-holds_unsigned-clause-only c = search rules

pub returns-else-holds_unsigned-clause-found : goal.returns-else-holds_unsigned-clause-found
returns-else-holds_unsigned-clause-found c = search rules

pub returns-else-holds_unsigned-clause-only : goal.returns-else-holds_unsigned-clause-only
returns-else-holds_unsigned-clause-only c = search rules
