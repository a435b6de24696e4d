use Rattle.bcs_json_spec.proofs.Verdict as law
use Rattle.bcs_json_spec.proofs.laws.one_tree.Goals as goal

pub returns : goal.returns
returns c = law.one_tree
