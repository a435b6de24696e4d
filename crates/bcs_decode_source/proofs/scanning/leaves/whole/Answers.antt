use Rattle.bcs_decode_source.proofs.Prelude.{refl, length-take-le, whole_here}
use Rattle.bcs_decode_source.proofs.Readers.{Reads-then, Reads-made, Reads-ends, Reads-exit}
use Rattle.bcs_decode_source.proofs.Leading.{Reads-count}
use Rattle.bcs_decode_source.proofs.scanning.leaves.whole.Goals as goal

pub returns-in_err-begin-clause-reads : goal.returns-in_err-begin-clause-reads
unfolding whole_here
returns-in_err-begin-clause-reads g c = Reads-exit c.from_residual.ensures.1 (Reads-ends _ c.in_err-begin.ensures.reads)

pub returns-in_err-read_exact-clause-reads : goal.returns-in_err-read_exact-clause-reads
unfolding whole_here
returns-in_err-read_exact-clause-reads g c =
    Reads-exit c.from_residual-in_err-read_exact.ensures.1 (Reads-then _ c.in_ok-begin.ensures.reads (Reads-ends _ (Reads-count (length-take-le c.args.width _ c.requires.small) c.in_err-read_exact.ensures.reads)))

pub returns-clause-reads : goal.returns-clause-reads
unfolding whole_here
returns-clause-reads g c =
    Reads-then _ c.in_ok-begin.ensures.reads (Reads-made (λ _. tt) refl (Reads-count (length-take-le c.args.width _ c.requires.small) c.in_ok-read_exact.ensures.reads))
