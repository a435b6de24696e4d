use Rattle.bcs_io.proofs.Prelude.{common_steps, rules, arith}
use Rattle.bcs_io.proofs.slice_source.SliceSourceByteSource.next.Goals as goal

pub returns-clause-count : goal.returns-clause-count
returns-clause-count c = search rules

pub returns-clause-rest : goal.returns-clause-rest
returns-clause-rest c = search rules

pub returns-clause-gives : goal.returns-clause-gives
returns-clause-gives c = grind (arith, common_steps)
