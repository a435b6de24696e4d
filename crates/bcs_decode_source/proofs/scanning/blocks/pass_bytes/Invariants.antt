use Rattle.bcs_decode_source.proofs.Prelude.{◌≡◌, length, bytes_run}
use Rattle.bcs_decode_source.proofs.Leading.{Leads}
use Rattle.bcs_decode_source.proofs.scanning.blocks.pass_bytes.Given as goal

abbrev pub invariant-loop-left : goal.invariant-loop-left
invariant-loop-left g l = record {
  leads : Leads g.S.ByteSource.content g.S.ByteSource.is_failed g.S.ByteSource.allowance (bytes_run l.count) (bytes_run l.left) l.fn.reader l.reader;
  block : length l.block ≡ 512;
}

abbrev pub decreases-loop-left : goal.decreases-loop-left
decreases-loop-left g l = l.left
