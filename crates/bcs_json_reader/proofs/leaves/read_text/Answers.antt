use Rattle.bcs_json_reader.proofs.Prelude.{ap, ◌∙◌, view}
use Rattle.bcs_json_spec.specs.Reading as spec
use Rattle.bcs_json_reader.proofs.Texts.{text_read}
use Rattle.bcs_json_reader.proofs.leaves.read_text.Goals as goal

pub returns-in-String-clause-reads : goal.returns-in-String-clause-reads
returns-in-String-clause-reads c = ap (λ j. spec.read_text (view j)) c.in-String.is ∙ text_read c.in-String.text
