use Rattle.bcs_decode_source.proofs.Prelude.{ℕ, length_here, counted_here, bytes_past, bytes_run}
use Rattle.bcs_decode_source.proofs.Readers.{Reads-then, Reads-ends, Reads-exit}
use Rattle.bcs_decode_source.proofs.scanning.leaves.bytes.Goals as goal

pub returns-in_err-begin-clause-reads : goal.returns-in_err-begin-clause-reads
unfolding bytes_past counted_here
returns-in_err-begin-clause-reads g c = Reads-exit c.from_residual.ensures.1 (Reads-ends {w = λ (x : Unit {0}). x} _ (Reads-ends {w = λ (n : ℕ). n} (λ _. length_here) c.in_err-begin.ensures.reads))

pub returns-in_err-count-clause-reads : goal.returns-in_err-count-clause-reads
unfolding bytes_past counted_here
returns-in_err-count-clause-reads g c = Reads-exit c.from_residual-in_err-count.ensures.1 (Reads-ends _ (Reads-then (λ _. length_here) c.in_ok-begin.ensures.reads c.in_err-count.ensures.reads))

pub returns-clause-reads : goal.returns-clause-reads
unfolding bytes_past counted_here bytes_run
returns-clause-reads g c = Reads-then bytes_run (Reads-then (λ _. length_here) c.in_ok-begin.ensures.reads c.in_ok-count.ensures.reads) c.pass_bytes.ensures.reads
