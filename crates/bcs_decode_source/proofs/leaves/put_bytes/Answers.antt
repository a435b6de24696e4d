use Rattle.bcs_value_model.specs.Tree as tree
use Rattle.bcs_decode_source.proofs.Readers.{Reads-node, Reads-then, Reads-made, Reads-ends, Reads-node-ends, Reads-exit}
use Rattle.bcs_decode_source.proofs.ValueViews.{tree_bytes}
use Rattle.bcs_decode_source.proofs.leaves.put_bytes.Goals as goal

pub returns : goal.returns
returns g c = record { reads = Reads-node c.in_ok-begin.ensures.reads (Reads-then _ c.in_ok-count.ensures.reads (Reads-made tree.bytes (tree_bytes c.in_ok-found.found) c.in_ok-found.ensures.reads)) }

pub returns-in_err-begin : goal.returns-in_err-begin
returns-in_err-begin g c = record { reads = Reads-exit c.from_residual.ensures.1 (Reads-node-ends _ c.in_err-begin.ensures.reads) }

pub returns-in_err-count : goal.returns-in_err-count
returns-in_err-count g c = record { reads = Reads-exit c.from_residual-in_err-count.ensures.1 (Reads-node c.in_ok-begin.ensures.reads (Reads-ends _ c.in_err-count.ensures.reads)) }

pub returns-in_err-found : goal.returns-in_err-found
returns-in_err-found g c = record { reads = Reads-exit c.from_residual-in_err-found.ensures.1 (Reads-node c.in_ok-begin.ensures.reads (Reads-then _ c.in_ok-count.ensures.reads (Reads-ends _ c.in_err-found.ensures.reads))) }
