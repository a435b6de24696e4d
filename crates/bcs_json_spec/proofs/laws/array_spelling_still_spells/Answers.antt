use Rattle.bcs_json_spec.proofs.ArraySpelling as law
use Rattle.bcs_json_spec.proofs.laws.array_spelling_still_spells.Goals as goal

pub returns : goal.returns
returns c = law.array_spelling_still_spells
