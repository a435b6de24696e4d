use Rattle.std.proofs.Common.{◌≡◌, drop}
use Rattle.bcs_part_labels.specs.Labels.{are_plain}
use Rattle.bcs_part_labels.proofs.labels.are_plain.Given as goal

abbrev pub invariant-loop-byte : goal.invariant-loop-byte
invariant-loop-byte l = are_plain (drop l.byte-index l.name) ≡ are_plain l.name
