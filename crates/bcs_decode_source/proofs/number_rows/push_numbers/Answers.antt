use Rattle.bcs_decode_source.proofs.Prelude.{◌≡◌, ◌∙◌, ◌*◌, ◌-◌, ◌≤◌, ◌++◌, refl, length, take, drop, map, ap, sym, subst, arith, length-take-le, length-append, length-drop, inl, inr, take_at, whole_len, whole_shape, bytes_here, tree_of, numbers, FindsFault, rest_of, leaf_here}
use Rattle.bcs_decode_source.proofs.NumberRows.{numbers_more, numbers_refused, numbers_none}
use Rattle.bcs_decode_source.proofs.StreamedRows.{items_none, items_done}
use Rattle.bcs_decode_source.proofs.Readers.{Onward-none, Onward-then, Onward-nodes, Onward-done, Onward-ends, Onward-stops, Reads-exit}
use Rattle.bcs_decode_source.proofs.number_rows.push_numbers.Goals as goal

pub loop-done-init : goal.loop-done-init
loop-done-init g c = record {
  on = Onward-none c.requires.ready;
  within = omega arith;
  block = refl;
  sees = items_none (leaf_here (whole_shape c.args.format)) c.args.count c.args.found.now.items (g.S.ByteSource.content c.args.reader.now.source.now) c.args.reader.now.at.now c.requires.empty;
}

pub returns-then-some-eq0 : goal.returns-then-some-eq0
returns-then-some-eq0 g c =
    let none : c.loop-done.reader.at.now.nodes ≡ 0 = elim (c.share-some.ensures.none (omega (arith, c.if-some-eq0.true))) [
      | inl h ↦ absurd (omega (arith, h, c.loop-done-test.true))
      | inr h ↦ h
    ] in
    record { reads = Onward-stops c.loop-done.invariant.on (omega arith) (numbers_none c.args.format c.args.count c.loop-done.done c.loop-done.found.items _ _ c.args.reader.now.at.now c.loop-done.reader.at.now c.loop-done-test.true none c.loop-done.invariant.sees) }

pub returns-in_err-read_exact : goal.returns-in_err-read_exact
returns-in_err-read_exact g c =
    let some = c.share-some.result in
    let size : some * c.byte_len-width.result ≡ some * whole_len c.args.format = ap (λ n. some * n) c.byte_len-width.ensures in
    let front : length (take (some * c.byte_len-width.result) c.loop-done.block) ≡ some * whole_len c.args.format = length-take-le (some * c.byte_len-width.result) c.loop-done.block (omega (arith, size, c.share-some.ensures.room, c.loop-done.invariant.block)) ∙ size in
    record {
      reads = Reads-exit c.from_residual.ensures.1 (Onward-ends (Onward-nodes (c.loop-done.reader.at.now.nodes - some) c.loop-done.invariant.on) c.in_err-read_exact.ensures.reads (numbers_refused c.args.format c.args.count c.loop-done.done some _ _ c.args.reader.now.at.now c.loop-done.reader.at.now (record c.loop-done.reader.at.now { nodes = c.loop-done.reader.at.now.nodes - some }) refl refl c.share-some.ensures.left c.share-some.ensures.nodes c.in_err-read_exact.field-0.0 c.loop-done.found.items c.loop-done.invariant.sees
          (subst (λ n. FindsFault c.in_err-read_exact.field-0.0 (g.S.ByteSource.content c.loop-done.reader.source.now) (record c.loop-done.reader.at.now { nodes = c.loop-done.reader.at.now.nodes - some }) (bytes_here n)) front c.in_err-read_exact.ensures.reads.sees)));
    }

pub loop-done-preserved : goal.loop-done-preserved
loop-done-preserved g c =
    let read = c.in_ok-read_exact.ensures in
    let some = c.share-some.result in
    let size : some * c.byte_len-width.result ≡ some * whole_len c.args.format = ap (λ n. some * n) c.byte_len-width.ensures in
    let fits : some * c.byte_len-width.result ≤ length c.loop-done.block = omega (arith, size, c.share-some.ensures.room, c.loop-done.invariant.block) in
    let front : length (take (some * c.byte_len-width.result) c.loop-done.block) ≡ some * whole_len c.args.format = length-take-le (some * c.byte_len-width.result) c.loop-done.block fits ∙ size in
    let long : length c.read_exact.new.buf ≡ some * c.byte_len-width.result = read.len ∙ length-take-le (some * c.byte_len-width.result) c.loop-done.block fits in
    let whole : take (some * c.byte_len-width.result) (c.read_exact.new.buf ++ drop (some * c.byte_len-width.result) c.loop-done.block) ≡ c.read_exact.new.buf = take_at c.read_exact.new.buf (drop (some * c.byte_len-width.result) c.loop-done.block) (some * c.byte_len-width.result) long in
    let found : map tree_of c.push_block.new.found.items ≡ map tree_of c.loop-done.found.items ++ numbers c.args.format some c.read_exact.new.buf = rw whole at (c.in_ok-push_block.ensures some (ap length whole ∙ long ∙ size)) in
    record {
      on = Onward-then (Onward-nodes (c.loop-done.reader.at.now.nodes - some) c.loop-done.invariant.on) read.reads;
      within = omega (arith, c.share-some.ensures.left, c.from-done.ensures);
      block = omega (arith, length-append c.read_exact.new.buf (drop (some * c.byte_len-width.result) c.loop-done.block), length-drop (some * c.byte_len-width.result) c.loop-done.block, c.loop-done.invariant.block, long, fits);
      sees = rw c.from-done.ensures (numbers_more c.args.format c.args.count c.loop-done.done some _ _ c.args.reader.now.at.now c.loop-done.reader.at.now (record c.loop-done.reader.at.now { nodes = c.loop-done.reader.at.now.nodes - some }) refl refl c.share-some.ensures.left c.share-some.ensures.nodes c.loop-done.found.items c.push_block.new.found.items c.read_exact.new.buf _ c.read_exact.new.reader.at.now c.loop-done.invariant.sees
          (λ told. let s = read.reads.sees told in (ap (λ n. bytes_here n c.loop-done.reader.at.now.place (c.loop-done.reader.at.now.nodes - some) (rest_of (g.S.ByteSource.content c.loop-done.reader.source.now))) (sym front) ∙ s.0, s.1)) found);
    }

pub returns : goal.returns
returns g c = record { reads = Onward-done c.loop-done.invariant.on (items_done (leaf_here (whole_shape c.args.format)) c.args.count c.loop-done.done c.loop-done.found.items _ _ c.args.reader.now.at.now c.loop-done.reader.at.now c.loop-done-test.false c.loop-done.invariant.sees) }
