use Rattle.bcs_io.proofs.LineLemmas.{lines_give_text_back}
use Rattle.bcs_io.proofs.laws.lines_give_text_back.Goals as goal

pub returns : goal.returns
returns c = lines_give_text_back
