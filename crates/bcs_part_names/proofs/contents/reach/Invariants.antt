use Rattle.std.proofs.Common.{Option, map, drop}
use Rattle.bcs_decode_parts.specs.Here.{content_of}
use Rattle.bcs_decode_parts.specs.Steps.{step_of}
use Rattle.bcs_decode_parts.specs.declared.here.Reached.{Reached}
use Rattle.bcs_part_names.specs.Contents.{LeadsAlong}
use Rattle.bcs_part_names.proofs.contents.reach.Given as goal

-- the remaining steps lead from here to where all steps lead from the start
abbrev pub invariant-loop-step : goal.invariant-loop-step
invariant-loop-step l = record {
  whole : (r : Option Reached) → LeadsAlong l.registry l.at.ahead (map step_of (drop l.step-index l.path)) (content_of l.at.here) r
      → LeadsAlong l.registry l.start.ahead (map step_of l.path) (content_of l.start.here) r;
}
