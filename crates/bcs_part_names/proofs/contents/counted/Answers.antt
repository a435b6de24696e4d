use Rattle.std.proofs.Common.{rules}
use Rattle.bcs_part_names.proofs.contents.counted.Goals as goal

pub returns : goal.returns
returns c = λ n after small is. (let number = c.in_ok-number.ensures n after small is in search (rules, number))
