use Rattle.std.proofs.Common.{sym, ◌∙◌}
use Rattle.bcs_registry_model.specs.View.{shape_of}
use Rattle.bcs_part_names.proofs.PartContents.{list_none, list_sized, none_sized}
use Rattle.bcs_part_names.proofs.contents.sized_list.Goals as goal

pub returns-then-is_byte : goal.returns-then-is_byte
returns-then-is_byte c = list_sized c.args.ahead.now c.counted.result c.counted.ensures (shape_of c.args.element.now) (sym c.is_byte.ensures ∙ c.if-is_byte.true)

pub returns-else-is_byte : goal.returns-else-is_byte
returns-else-is_byte c = none_sized c.args.ahead.now _ (list_none (shape_of c.args.element.now) (sym c.is_byte.ensures ∙ c.if-is_byte.false))
