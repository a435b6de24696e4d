use Rattle.bcs_value.proofs.Prelude.{rules, the_lemmas}
use Rattle.bcs_value.proofs.nesting.+depth.Goals as goal

pub depth-returns-in-Named : goal.depth-returns-in-Named
depth-returns-in-Named t c = search (rules, the_lemmas)
