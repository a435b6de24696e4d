use Rattle.bcs_decode_source.proofs.Prelude.{◌≡◌, ℕ, List, vec_len, ◌∙◌, ◌+◌, ◌-◌, ◌++◌, length, replicate, ap, sym, subst, arith, length-append, take_all, length-replicate, bytes_here, FindsFault, rest_of}
use Rattle.bcs_decode_source.proofs.Blocks.{bytes_none, bytes_more, bytes_done, bytes_refused, tail_filled}
use Rattle.bcs_decode_source.proofs.Readers.{Onward-none, Onward-then, Onward-done, Onward-ends, Reads-exit}
use Rattle.bcs_decode_source.proofs.strings.bytes.Goals as goal

pub loop-found-init : goal.loop-found-init
loop-found-init g c = record {
  on = Onward-none c.requires.ready;
  within = omega (arith, ap length c.in_ok-make_room.ensures.empty);
  far = omega (arith, ap length c.in_ok-make_room.ensures.empty);
  sees = rw c.in_ok-make_room.ensures.empty (bytes_none c.args.count (g.S.ByteSource.content c.args.reader.now.source.now) c.args.reader.now.at.now);
}

pub returns-in_err-read_exact-clause-reads : goal.returns-in_err-read_exact-clause-reads
returns-in_err-read_exact-clause-reads g c =
    let size = c.min-size.result in
    let tail : length c.slice_mut.result.now ≡ size = omega (arith, c.slice_mut.ensures.len, c.in_ok-resize.ensures.len, c.len-start.ensures) in
    Reads-exit c.from_residual-in_err-read_exact.ensures.1 (Onward-ends c.loop-found.invariant.on c.in_err-read_exact.ensures.reads (bytes_refused c.in_err-read_exact.field-0.0 c.args.count size c.loop-found.found.items _ _ c.args.reader.now.at.now c.loop-found.reader.at.now (omega (arith, c.len-start.ensures, c.min-size.ensures)) c.loop-found.invariant.sees
    (subst (λ n. FindsFault c.in_err-read_exact.field-0.0 (g.S.ByteSource.content c.loop-found.reader.source.now) c.loop-found.reader.at.now (bytes_here n)) tail c.in_err-read_exact.ensures.reads.sees)))

pub loop-found-preserved : goal.loop-found-preserved
loop-found-preserved g c =
    let read = c.in_ok-read_exact.ensures in
    let size = c.min-size.result in
    let found = c.loop-found.found.items in
    let start : c.len-start.result ≡ length found = omega (arith, c.len-start.ensures) in
    let tail : length c.slice_mut.result.now ≡ size = omega (arith, c.slice_mut.ensures.len, c.in_ok-resize.ensures.len, start) in
    let long : length c.read_exact.new.buf ≡ size = read.len ∙ tail in
    let zeros : List ℕ = replicate (c.len-start.result + size - vec_len c.loop-found.found) 0 in
    let grown : c.resize.new.self.items ≡ found ++ zeros = c.in_ok-resize.ensures.items ∙ ap (λ (l : List ℕ). l ++ zeros) (take_all (c.len-start.result + size) found (omega (arith, start))) in
    let filled = tail_filled found c.resize.new.self.items c.read_exact.new.buf zeros c.len-start.result c.resize.new.self.len start grown (omega (arith, long, start, length-replicate {A = ℕ} (c.len-start.result + size - vec_len c.loop-found.found) 0)) (omega arith) in
    let more : length (found ++ c.read_exact.new.buf) ≡ length found + size = length-append found c.read_exact.new.buf ∙ ap (λ n. length found + n) long in
    rw filled (record {
      on = Onward-then c.loop-found.invariant.on read.reads;
      within = omega (arith, more, c.min-size.ensures, start);
      far = omega (arith, more, read.far, tail, c.loop-found.invariant.far);
      sees = bytes_more c.args.count size found c.read_exact.new.buf _ _ _ c.args.reader.now.at.now c.loop-found.reader.at.now c.read_exact.new.reader.at.now (omega (arith, start, c.min-size.ensures)) c.loop-found.invariant.within long c.loop-found.invariant.sees
          (λ told. let s = read.reads.sees told in (ap (λ n. bytes_here n c.loop-found.reader.at.now.place c.loop-found.reader.at.now.nodes (rest_of (g.S.ByteSource.content c.loop-found.reader.source.now))) (sym tail) ∙ s.0, s.1));
    })

pub returns-clause-reads : goal.returns-clause-reads
returns-clause-reads g c = Onward-done c.loop-found.invariant.on (bytes_done c.args.count c.loop-found.found.items _ _ c.args.reader.now.at.now c.loop-found.reader.at.now (omega arith) c.loop-found.invariant.sees)
