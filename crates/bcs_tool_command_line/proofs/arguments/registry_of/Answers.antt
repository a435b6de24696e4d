use Rattle.bcs_tool_command_line.proofs.Prelude.{◌∙◌, codes, found_of, first_value-rows}
use Rattle.bcs_tool_command_line.proofs.FoundTexts.{either}
use Rattle.bcs_tool_command_line.proofs.arguments.registry_of.Goals as goal

pub returns : goal.returns
returns c =
    let f = found_of c.args.given.now in
    either c.get_str.result c.or.result c.or-2.result _ _ c.or-2.ensures (c.get_str.ensures ∙ first_value-rows f (codes "REG"))
    (either c.get_str-2.result c.get_str-3.result c.or.result _ _ c.or.ensures (c.get_str-2.ensures ∙ first_value-rows f (codes "OLD"))
    (c.get_str-3.ensures ∙ first_value-rows f (codes "MODULES")))
