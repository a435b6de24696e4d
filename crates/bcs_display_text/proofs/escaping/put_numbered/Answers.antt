use Rattle.std.proofs.Common.{append_assoc, rules}
use Rattle.bcs_display_text.proofs.EscapedUnits.{numbered_digits}
use Rattle.bcs_display_text.proofs.escaping.put_numbered.Goals as goal

pub returns : goal.returns
returns c = search (rules, append_assoc, numbered_digits)
