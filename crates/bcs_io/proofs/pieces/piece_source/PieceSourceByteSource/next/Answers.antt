use Rattle.bcs_io.proofs.Prelude.{rules}
use Rattle.bcs_io.proofs.pieces.piece_source.PieceSourceByteSource.next.Goals as goal

pub returns-then-self-clause-gives : goal.returns-then-self-clause-gives
returns-then-self-clause-gives c = search rules

pub returns-then-self-clause-fails : goal.returns-then-self-clause-fails
returns-then-self-clause-fails c = search rules

pub returns-then-self-clause-count : goal.returns-then-self-clause-count
returns-then-self-clause-count c = search rules

pub returns-then-self-clause-ok : goal.returns-then-self-clause-ok
returns-then-self-clause-ok c = search rules

pub returns-then-self-clause-err : goal.returns-then-self-clause-err
returns-then-self-clause-err c = search rules

pub returns-clause-count : goal.returns-clause-count
returns-clause-count c = search rules
