use Rattle.bcs_decode_source.proofs.Prelude.{◌≡◌, ◌-◌, ◌*◌, ◌≤◌, length, drop, length-take-le, length-append, length-drop, inl, inr, arith, bytes_here, items_here, skipping, whole_here}
use Rattle.bcs_decode_source.proofs.Readers.{Reads-exit}
use Rattle.bcs_decode_source.proofs.Leading.{Reads-count, Leads-on, Leads-nodes, Leads-ends, Leads-stops, Leads-done, chain_on, chain_ends}
use Rattle.bcs_decode_source.proofs.PastRows.{begun, row_begun, row_end, row_none}
use Rattle.bcs_decode_source.proofs.scanning.integers.skip_integers.Goals as goal

pub returns-then-some-eq0-clause-reads : goal.returns-then-some-eq0-clause-reads
returns-then-some-eq0-clause-reads g c =
    let none : c.loop-left.reader.at.now.nodes ≡ 0 = elim (c.share-some.ensures.none (omega (arith, c.if-some-eq0.true))) [
      | inl h ↦ absurd (omega (arith, h, c.loop-left-test.true))
      | inr h ↦ h
    ] in
    Leads-stops c.loop-left.invariant.leads (omega arith) (λ b. row_none c.args.width c.loop-left.left _ _ b (omega (arith, c.loop-left-test.true)) none)

pub returns-in_err-read_exact-clause-reads : goal.returns-in_err-read_exact-clause-reads
returns-in_err-read_exact-clause-reads g c =
    let w = c.args.width in
    let some = c.share-some.result in
    let left = c.loop-left.left in
    let block = length-take-le (some * w) c.loop-left.block (omega (arith, c.share-some.ensures.room, c.loop-left.invariant.block)) in
    let on = Leads-nodes {k = begun w some left} (c.loop-left.reader.at.now.nodes - some) c.loop-left.invariant.leads (λ b. row_begun w some left _ _ b c.share-some.ensures.left c.share-some.ensures.nodes) in
    Reads-exit c.from_residual.ensures.1 (Leads-ends on (Reads-count block c.in_err-read_exact.ensures.reads)
    (λ b e h. chain_ends (bytes_here (some * w)) (λ _. items_here skipping (whole_here w) (left - some)) _ _ b e h))

pub loop-left-preserved : goal.loop-left-preserved
loop-left-preserved g c =
    let w = c.args.width in
    let some = c.share-some.result in
    let left = c.loop-left.left in
    let fits : some * w ≤ length c.loop-left.block = omega (arith, c.share-some.ensures.room, c.loop-left.invariant.block) in
    let block = length-take-le (some * w) c.loop-left.block fits in
    let on = Leads-nodes {k = begun w some left} (c.loop-left.reader.at.now.nodes - some) c.loop-left.invariant.leads (λ b. row_begun w some left _ _ b c.share-some.ensures.left c.share-some.ensures.nodes) in
    record {
      leads = rw c.from-left.ensures (Leads-on {k = items_here skipping (whole_here w) (left - some)} on (Reads-count block c.in_ok-read_exact.ensures.reads)
          (λ b t h. chain_on (bytes_here (some * w)) (λ _. items_here skipping (whole_here w) (left - some)) _ _ b _ _ _ t h));
      block = omega (arith, length-append c.read_exact.new.buf (drop (some * w) c.loop-left.block), length-drop (some * w) c.loop-left.block, c.loop-left.invariant.block, c.in_ok-read_exact.ensures.len, block, fits);
    }

pub returns-clause-reads : goal.returns-clause-reads
returns-clause-reads g c = Leads-done c.loop-left.invariant.leads (λ b. row_end c.args.width c.loop-left.left _ _ b (omega (arith, c.loop-left-test.false)))
