use Rattle.bcs_tool_command_line.proofs.Prelude.{◌∙◌, ap, Some, found_of, raw_values-rows}
use Rattle.bcs_tool_command_line.proofs.arguments.names_in.Goals as goal

pub returns-in_ok-copies-in-Some : goal.returns-in_ok-copies-in-Some
returns-in_ok-copies-in-Some c =
    ap Some c.in_ok-copies-in-Some.ensures ∙ (c.in-Some.ensures ∙ raw_values-rows (found_of c.args.given.now) c.args.argument.now)

pub returns-in-None : goal.returns-in-None
returns-in-None c = c.in-None.ensures ∙ raw_values-rows (found_of c.args.given.now) c.args.argument.now
