use Rattle.bcs_num.proofs.UlebLaws.{uleb-low, uleb-more}
use Rattle.bcs_num.proofs.laws.uleb_by_bytes.Goals as goal

pub returns : goal.returns
returns c = (uleb-low, uleb-more)
