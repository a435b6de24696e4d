use Rattle.bcs_decode_parts.proofs.Parts as law
use Rattle.bcs_decode_parts.proofs.path_laws.one_path.Goals as goal

pub returns : goal.returns
returns c = law.one_path
