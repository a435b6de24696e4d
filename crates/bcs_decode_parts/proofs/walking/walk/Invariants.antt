use Rattle.bcs_decode_parts.proofs.Prelude.{Option, map, drop, content_of, step_of}
use Rattle.bcs_decode_parts.specs.declared.part.Part.{Part}
use Rattle.bcs_decode_parts.proofs.Paths.{WalksIn}
use Rattle.bcs_decode_parts.proofs.walking.walk.Given as goal

-- the remaining steps lead from here to where all steps lead from the start
abbrev pub invariant-loop-step : goal.invariant-loop-step
invariant-loop-step l = record {
  whole : (r : Option Part) → WalksIn l.registry l.ahead.bytes.now l.at.ahead (content_of l.at.here) (map step_of (drop l.step-index l.path)) r
      → WalksIn l.registry l.ahead.bytes.now l.initial.at.ahead (content_of l.initial.at.here) (map step_of l.path) r;
}
