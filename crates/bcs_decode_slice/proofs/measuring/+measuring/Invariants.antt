use Rattle.bcs_decode_slice.proofs.Prelude.{◌+◌, ◌*◌, ◌<◌, ◌≤◌, drop, tuple_shape, row_formats, formats_shapes, skip}
use Rattle.bcs_decode_spec.proofs.PartSteps.{each}
use Rattle.bcs_decode_slice.proofs.Reaching.{Reaches}
use Rattle.bcs_decode_slice.proofs.measuring.+measuring.Given as goal

-- each format that is examined reduces `looks` by one
abbrev pub decreases-value_size : goal.decreases-value_size
decreases-value_size l = 4 * l.looks.now

abbrev pub decreases-array_size : goal.decreases-array_size
decreases-array_size l = 4 * l.looks.now + 1

abbrev pub decreases-row_size : goal.decreases-row_size
decreases-row_size l = 4 * l.looks.now + 1

abbrev pub decreases-content_size : goal.decreases-content_size
decreases-content_size l = 4 * l.looks.now + 2

abbrev pub decreases-named_size : goal.decreases-named_size
decreases-named_size l = 4 * l.looks.now + 3

abbrev pub invariant-row_size-loop-place : goal.invariant-row_size-loop-place
invariant-row_size-loop-place l = record {
  looks : l.looks ≤ l.initial.looks;
  begun : 0 < l.whole.nodes;
  reaches : Reaches (skip l.registry l.depth (tuple_shape (formats_shapes (row_formats l.row)))) (each l.registry l.depth (formats_shapes (drop l.place (row_formats l.row)))) l.whole.bytes l.whole.nodes;
}
