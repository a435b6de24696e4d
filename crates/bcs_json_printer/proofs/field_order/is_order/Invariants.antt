use Rattle.bcs_json_printer.proofs.Prelude.{◌<◌, drop, length, AscendFrom}
use Rattle.bcs_json_printer.proofs.field_order.is_order.Given as goal

-- if what is left ascends, all places do
abbrev pub invariant-loop-place : goal.invariant-loop-place
invariant-loop-place l = record {
  bound : l.before < length l.fields;
  whole : AscendFrom l.fields l.before (drop l.place-index l.rest) → AscendFrom l.fields l.initial.before l.rest;
}
