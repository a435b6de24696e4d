use Rattle.bcs_encode_spec.proofs.Growth.{keeps_bytes, keeps_encodings}
use Rattle.bcs_encode_spec.proofs.laws.growth_keeps_bytes.Goals as goal

pub returns-clause-plain : goal.returns-clause-plain
returns-clause-plain c = keeps_bytes

pub returns-clause-encodings : goal.returns-clause-encodings
returns-clause-encodings c = keeps_encodings
