use Rattle.bcs_tool.proofs.Prelude.{refl, numbered}
use Rattle.bcs_tool.proofs.console.visible.escape_of.Goals as goal

pub returns : goal.returns
unfolding numbered
returns c = rw (c.last_digit.ensures, c.last_digit-2.ensures, c.last_digit-3.ensures, c.last_digit-4.ensures) refl
