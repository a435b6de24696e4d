use Rattle.bcs_decode_source.proofs.Prelude.{◌≡◌, ◌-◌, length}
use Rattle.bcs_decode_source.proofs.Readers.{Onward}
use Rattle.bcs_decode_source.proofs.PastTexts.{TextSoFar}
use Rattle.bcs_decode_source.proofs.scanning.texts.pass_text.Given as goal

abbrev pub invariant-loop-done : goal.invariant-loop-done
invariant-loop-done g l = record {
  on : Onward g.S.ByteSource.content g.S.ByteSource.is_failed g.S.ByteSource.allowance l.fn.reader l.reader;
  block : length l.block ≡ 515;
  sees : TextSoFar l.count l.good l.done l.block (g.S.ByteSource.content l.fn.reader.source.now) l.fn.reader.at.now (g.S.ByteSource.content l.reader.source.now) l.reader.at.now;
}

abbrev pub decreases-loop-done : goal.decreases-loop-done
decreases-loop-done g l = l.count - l.done
