use Rattle.std.proofs.Common.{refl, sym, ◌∙◌}
use Rattle.bcs_registry_model.specs.View.{shape_of}
use Rattle.bcs_part_names.proofs.PartContents.{array_none, array_sized, none_sized}
use Rattle.bcs_part_names.proofs.contents.sized_array.Goals as goal

pub returns-then-is_byte : goal.returns-then-is_byte
returns-then-is_byte c = array_sized c.args.ahead.now (shape_of c.args.element.now) c.args.size _ (sym c.is_byte.ensures ∙ c.if-is_byte.true) refl

pub returns-else-is_byte : goal.returns-else-is_byte
returns-else-is_byte c = none_sized c.args.ahead.now _ (array_none (shape_of c.args.element.now) c.args.size (sym c.is_byte.ensures ∙ c.if-is_byte.false))
