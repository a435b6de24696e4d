use Rattle.bcs_decode_source.proofs.Prelude.{◌≡◌, ◌+◌, ◌-◌, ◌≤◌, length}
use Rattle.bcs_decode_source.proofs.Blocks.{BytesSoFar}
use Rattle.bcs_decode_source.proofs.Readers.{Onward}
use Rattle.bcs_decode_source.proofs.strings.bytes.Given as goal

abbrev pub invariant-loop-found : goal.invariant-loop-found
invariant-loop-found g l = record {
  on : Onward g.S.ByteSource.content g.S.ByteSource.is_failed g.S.ByteSource.allowance l.fn.reader l.reader;
  within : length l.found.items ≤ l.count;
  far : l.reader.at.now.place ≡ l.fn.reader.at.now.place + length l.found.items;
  sees : BytesSoFar l.count l.found.items (g.S.ByteSource.content l.fn.reader.source.now) l.fn.reader.at.now (g.S.ByteSource.content l.reader.source.now) l.reader.at.now;
}

abbrev pub decreases-loop-found : goal.decreases-loop-found
decreases-loop-found g l = l.count - length l.found.items
