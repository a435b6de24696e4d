use Rattle.bcs_display_text.proofs.Printable.{escaped_is_printable}
use Rattle.bcs_display_text.proofs.laws.escaped_is_printable.Goals as goal

pub returns : goal.returns
returns c = escaped_is_printable
