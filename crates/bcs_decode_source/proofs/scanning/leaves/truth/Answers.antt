use Rattle.bcs_decode_source.proofs.Prelude.{refl, truth_here}
use Rattle.bcs_decode_source.proofs.Readers.{Reads-then, Reads-made, Reads-ends, Reads-exit}
use Rattle.bcs_decode_source.proofs.scanning.leaves.truth.Goals as goal

pub returns-in_err-begin-clause-reads : goal.returns-in_err-begin-clause-reads
unfolding truth_here
returns-in_err-begin-clause-reads g c = Reads-exit c.from_residual.ensures.1 (Reads-ends _ c.in_err-begin.ensures.reads)

pub returns-in_err-flag-clause-reads : goal.returns-in_err-flag-clause-reads
unfolding truth_here
returns-in_err-flag-clause-reads g c = Reads-exit c.from_residual-in_err-flag.ensures.1 (Reads-then _ c.in_ok-begin.ensures.reads (Reads-ends _ c.in_err-flag.ensures.reads))

pub returns-clause-reads : goal.returns-clause-reads
unfolding truth_here
returns-clause-reads g c = Reads-then _ c.in_ok-begin.ensures.reads (Reads-made (λ _. tt) refl c.in_ok-flag.ensures.reads)
