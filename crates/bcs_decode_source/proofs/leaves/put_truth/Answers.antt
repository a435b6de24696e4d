use Rattle.bcs_value_model.specs.Tree as tree
use Rattle.bcs_decode_source.proofs.Readers.{Reads-node, Reads-made, Reads-ends, Reads-node-ends, Reads-exit}
use Rattle.bcs_decode_source.proofs.ValueViews.{tree_truth}
use Rattle.bcs_decode_source.proofs.leaves.put_truth.Goals as goal

pub returns-clause-reads : goal.returns-clause-reads
returns-clause-reads g c = Reads-node c.in_ok-begin.ensures.reads (Reads-made tree.truth (tree_truth c.in_ok-truth.truth) c.in_ok-truth.ensures.reads)

pub returns-in_err-begin-clause-reads : goal.returns-in_err-begin-clause-reads
returns-in_err-begin-clause-reads g c = Reads-exit c.from_residual.ensures.1 (Reads-node-ends _ c.in_err-begin.ensures.reads)

pub returns-in_err-truth-clause-reads : goal.returns-in_err-truth-clause-reads
returns-in_err-truth-clause-reads g c = Reads-exit c.from_residual-in_err-truth.ensures.1 (Reads-node c.in_ok-begin.ensures.reads (Reads-ends _ c.in_err-truth.ensures.reads))
