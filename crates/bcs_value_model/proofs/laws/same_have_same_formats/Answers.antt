use Rattle.bcs_value_model.proofs.SameFormats.{same_formats}
use Rattle.bcs_value_model.proofs.laws.same_have_same_formats.Goals as goal

pub returns : goal.returns
returns c = same_formats
