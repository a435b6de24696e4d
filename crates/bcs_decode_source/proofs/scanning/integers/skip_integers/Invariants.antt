use Rattle.bcs_decode_source.proofs.Prelude.{◌≡◌, length, items_here, skipping, whole_here}
use Rattle.bcs_decode_source.proofs.Leading.{Leads}
use Rattle.bcs_decode_source.proofs.scanning.integers.skip_integers.Given as goal

abbrev pub invariant-loop-left : goal.invariant-loop-left
invariant-loop-left g l = record {
  leads : Leads g.S.ByteSource.content g.S.ByteSource.is_failed g.S.ByteSource.allowance (items_here skipping (whole_here l.width) l.count) (items_here skipping (whole_here l.width) l.left) l.fn.reader l.reader;
  block : length l.block ≡ 512;
}

abbrev pub decreases-loop-left : goal.decreases-loop-left
decreases-loop-left g l = l.left
