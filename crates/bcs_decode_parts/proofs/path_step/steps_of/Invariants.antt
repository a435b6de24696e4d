use Rattle.bcs_decode_parts.proofs.Prelude.{◌≡◌, map, take, step_of, all_spelled}
use Rattle.bcs_decode_parts.proofs.path_step.steps_of.Given as goal

abbrev pub invariant-loop-step : goal.invariant-loop-step
invariant-loop-step l = map step_of l.steps.items ≡ all_spelled (take l.step-index l.path)
