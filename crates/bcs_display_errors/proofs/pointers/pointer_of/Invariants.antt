use Rattle.std.proofs.Common.{◌≡◌, ◌++◌, drop, map}
use Rattle.bcs_json_spec.specs.Place.{pointer_step_of}
use Rattle.bcs_display_errors.specs.Pointers.{pointer}
use Rattle.bcs_display_errors.proofs.pointers.pointer_of.Given as goal

-- what has been appended so far, followed by the remaining steps
abbrev pub invariant-loop-step : goal.invariant-loop-step
invariant-loop-step l = l.out.items ++ pointer (map pointer_step_of (drop l.step-index l.steps)) ≡ pointer (map pointer_step_of l.steps)
