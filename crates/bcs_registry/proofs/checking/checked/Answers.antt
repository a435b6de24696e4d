use Rattle.bcs_registry.proofs.Prelude.{rules}
use Rattle.bcs_registry.proofs.checking.checked.Goals as goal

pub returns-then-not-all_keep-clause-ok : goal.returns-then-not-all_keep-clause-ok
returns-then-not-all_keep-clause-ok c = search rules

pub returns-then-not-all_keep-clause-fault : goal.returns-then-not-all_keep-clause-fault
returns-then-not-all_keep-clause-fault c = search rules

pub returns-then-not-all_keep-clause-too_nested : goal.returns-then-not-all_keep-clause-too_nested
returns-then-not-all_keep-clause-too_nested c = search rules

pub returns-in-Ok-false-clause-ok : goal.returns-in-Ok-false-clause-ok
returns-in-Ok-false-clause-ok c = search rules

pub returns-in-Ok-false-clause-fault : goal.returns-in-Ok-false-clause-fault
returns-in-Ok-false-clause-fault c = search rules

pub returns-in-Ok-false-clause-too_nested : goal.returns-in-Ok-false-clause-too_nested
returns-in-Ok-false-clause-too_nested c = search rules

pub returns-in-Err-clause-ok : goal.returns-in-Err-clause-ok
returns-in-Err-clause-ok c = search rules

pub returns-in-Err-clause-fault : goal.returns-in-Err-clause-fault
returns-in-Err-clause-fault c = search rules

pub returns-in-Err-clause-too_nested : goal.returns-in-Err-clause-too_nested
returns-in-Err-clause-too_nested c = search rules

pub returns-then-not-all_keep-2-clause-ok : goal.returns-then-not-all_keep-2-clause-ok
returns-then-not-all_keep-2-clause-ok c = search rules

pub returns-then-not-all_keep-2-clause-fault : goal.returns-then-not-all_keep-2-clause-fault
returns-then-not-all_keep-2-clause-fault c = search rules

pub returns-then-not-all_keep-2-clause-too_nested : goal.returns-then-not-all_keep-2-clause-too_nested
returns-then-not-all_keep-2-clause-too_nested c = search rules

pub returns-clause-ok : goal.returns-clause-ok
returns-clause-ok c = search rules

pub returns-clause-fault : goal.returns-clause-fault
returns-clause-fault c = search rules

pub returns-clause-too_nested : goal.returns-clause-too_nested
returns-clause-too_nested c = search rules

pub returns-in_err-numbers-clause-ok : goal.returns-in_err-numbers-clause-ok
returns-in_err-numbers-clause-ok c = search rules

pub returns-in_err-numbers-clause-fault : goal.returns-in_err-numbers-clause-fault
returns-in_err-numbers-clause-fault c = search rules

pub returns-in_err-numbers-clause-too_nested : goal.returns-in_err-numbers-clause-too_nested
returns-in_err-numbers-clause-too_nested c = search rules
