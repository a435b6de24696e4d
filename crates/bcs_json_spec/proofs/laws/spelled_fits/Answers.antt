use Rattle.bcs_json_spec.proofs.Fitting as law
use Rattle.bcs_json_spec.proofs.laws.spelled_fits.Goals as goal

pub returns : goal.returns
returns c = law.spelled_fits
