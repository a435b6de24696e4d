use Rattle.std.proofs.Common.{rules}
use Rattle.bcs_key_order.proofs.spans.rises.Goals as goal

pub returns : goal.returns
returns c = search rules
