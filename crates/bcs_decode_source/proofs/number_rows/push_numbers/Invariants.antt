use Rattle.bcs_decode_source.proofs.Prelude.{◌-◌, ◌≡◌, ◌≤◌, length, whole_shape, leaf_here}
use Rattle.bcs_decode_source.proofs.Readers.{Onward}
use Rattle.bcs_decode_source.proofs.StreamedRows.{ItemsSoFar}
use Rattle.bcs_decode_source.proofs.number_rows.push_numbers.Given as goal

abbrev pub invariant-loop-done : goal.invariant-loop-done
invariant-loop-done g l = record {
  on : Onward g.S.ByteSource.content g.S.ByteSource.is_failed g.S.ByteSource.allowance l.fn.reader l.reader;
  within : l.done ≤ l.count;
  block : length l.block ≡ 512;
  sees : ItemsSoFar (leaf_here (whole_shape l.format)) l.count l.done l.found.items (g.S.ByteSource.content l.fn.reader.source.now) (g.S.ByteSource.content l.reader.source.now) l.fn.reader.at.now l.reader.at.now;
}

abbrev pub decreases-loop-done : goal.decreases-loop-done
decreases-loop-done g l = l.count - l.done
