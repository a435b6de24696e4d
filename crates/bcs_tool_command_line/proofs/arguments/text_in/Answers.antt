use Rattle.bcs_tool_command_line.proofs.Prelude.{◌∙◌, found_of, first_value-rows}
use Rattle.bcs_tool_command_line.proofs.arguments.text_in.Goals as goal

pub returns : goal.returns
returns c = c.get_str.ensures ∙ first_value-rows (found_of c.args.given.now) c.args.argument.now
