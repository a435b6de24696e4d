use Rattle.bcs_decode_source.proofs.Prelude.{common_steps, arith, rules}
use Rattle.bcs_decode_source.proofs.keys.settle.Goals as goal

pub returns-clause-last : goal.returns-clause-last
returns-clause-last c = grind (arith, common_steps)

pub returns-then-at-clause-last : goal.returns-then-at-clause-last
returns-then-at-clause-last c = grind (arith, common_steps)

pub returns-then-at-clause-same : goal.returns-then-at-clause-same
returns-then-at-clause-same c = search rules

pub returns-then-at-clause-recorded : goal.returns-then-at-clause-recorded
returns-then-at-clause-recorded c = search rules

pub returns-then-at-clause-front : goal.returns-then-at-clause-front
returns-then-at-clause-front c = search rules

pub returns-then-at-clause-begun : goal.returns-then-at-clause-begun
returns-then-at-clause-begun c = search rules

pub returns-then-at-clause-stands : goal.returns-then-at-clause-stands
returns-then-at-clause-stands c = search rules

pub returns-clause-same : goal.returns-clause-same
returns-clause-same c = search rules

pub returns-clause-recorded : goal.returns-clause-recorded
returns-clause-recorded c = search rules

pub returns-clause-begun : goal.returns-clause-begun
returns-clause-begun c = search rules

pub returns-clause-stands : goal.returns-clause-stands
returns-clause-stands c = search rules

pub returns-clause-front : goal.returns-clause-front
returns-clause-front c = grind (arith, common_steps)
