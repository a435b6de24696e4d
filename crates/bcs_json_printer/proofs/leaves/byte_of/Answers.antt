use Rattle.bcs_json_printer.proofs.Prelude.{rules, the_lemmas}
use Rattle.bcs_json_printer.proofs.leaves.byte_of.Goals as goal

pub returns-in-Unsigned : goal.returns-in-Unsigned
returns-in-Unsigned c = search (rules, the_lemmas)
