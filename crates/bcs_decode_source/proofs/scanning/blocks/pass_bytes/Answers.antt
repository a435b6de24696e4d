use Rattle.bcs_decode_source.proofs.Prelude.{drop, length-take-le, length-append, length-drop, arith}
use Rattle.bcs_decode_source.proofs.Readers.{Reads-exit}
use Rattle.bcs_decode_source.proofs.Leading.{Reads-count, Leads-on, Leads-ends, Leads-done}
use Rattle.bcs_decode_source.proofs.PastBlocks.{bytes_on, bytes_end_early, bytes_end}
use Rattle.bcs_decode_source.proofs.scanning.blocks.pass_bytes.Goals as goal

pub returns-in_err-read_exact-clause-reads : goal.returns-in_err-read_exact-clause-reads
returns-in_err-read_exact-clause-reads g c =
    let size = c.min-size.result in
    let block = length-take-le size c.loop-left.block (omega (arith, c.min-size.ensures, c.loop-left.invariant.block)) in
    Reads-exit c.from_residual.ensures.1 (Leads-ends c.loop-left.invariant.leads (Reads-count block c.in_err-read_exact.ensures.reads)
    (λ b e h. bytes_end_early size c.loop-left.left _ _ b (omega (arith, c.min-size.ensures)) e h))

pub loop-left-preserved : goal.loop-left-preserved
loop-left-preserved g c =
    let size = c.min-size.result in
    let block = length-take-le size c.loop-left.block (omega (arith, c.min-size.ensures, c.loop-left.invariant.block)) in
    record {
      leads = Leads-on c.loop-left.invariant.leads (Reads-count block c.in_ok-read_exact.ensures.reads)
          (λ b t h. bytes_on size c.loop-left.left _ _ b (omega (arith, c.min-size.ensures)) _ _ _ t h);
      block = omega (arith, length-append c.read_exact.new.buf (drop size c.loop-left.block), length-drop size c.loop-left.block, c.loop-left.invariant.block, c.in_ok-read_exact.ensures.len, block, c.min-size.ensures);
    }

pub returns-clause-reads : goal.returns-clause-reads
returns-clause-reads g c = Leads-done c.loop-left.invariant.leads (λ b. bytes_end c.loop-left.left _ _ b (omega (arith, c.loop-left-test.false)))
