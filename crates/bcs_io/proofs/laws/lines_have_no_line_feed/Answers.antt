use Rattle.bcs_io.proofs.LineLemmas.{lines_have_no_line_feed}
use Rattle.bcs_io.proofs.laws.lines_have_no_line_feed.Goals as goal

pub returns : goal.returns
returns c = lines_have_no_line_feed
