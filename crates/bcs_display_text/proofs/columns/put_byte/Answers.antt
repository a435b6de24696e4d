use Rattle.std.proofs.Common.{rules}
use Rattle.bcs_display_text.proofs.columns.put_byte.Goals as goal

pub returns : goal.returns
returns c = search rules
